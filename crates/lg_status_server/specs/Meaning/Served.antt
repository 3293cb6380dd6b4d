-- What a status server does from its start to its end, and how it says why it ended (this project's choice).
use Rattle.std.specs.Prelude.{◌≡◌, ◌⊎◌, ℕ, Bool, ◌-◌, ◌^◌, ◌≤◌, List, [], Option, codes}
use Rattle.lg_agent.specs.declared.refusal.Refusal.TheVariants.{NoMemory, NoView}
use Rattle.lg_agent.specs.Meaning.Values.{PassValue}
use Rattle.lg_follow.specs.Meaning.Sights.{OnlyLooked}
use Rattle.lg_http.specs.declared.hosts.Hosts.{Hosts}
use Rattle.lg_http.specs.declared.server.ServerEnd.TheVariants.{Stopped, WaitFailed}
use Rattle.lg_http.specs.declared.server.Server.{Server}
use Rattle.lg_http.specs.Meaning.Answers.{Replies, SiteReplies}
use Rattle.lg_http.specs.Meaning.Slots.{AreFree, AreServed, IsTold, slots_of}
use Rattle.lg_answers.specs.declared.snapshot.ShownConfig.{ShownConfig}
use Rattle.lg_answers.specs.Meaning.Routes.{wait_of}
use Rattle.lg_status_server.specs.declared.serving.Served.{Served}
use Rattle.lg_status_server.specs.declared.serving.Served.TheVariants.{Refused, Ended}
use Rattle.lg_status_server.specs.Meaning.Shown.{IsActOf, IsAnswerOf, IsFirst, IsLater, SiteValue}

-- what a status server that answers to these hosts replies to a request, from a state of its site
abbrev pub SiteRepliesTo : Hosts → SiteReplies SiteValue
SiteRepliesTo hosts =
    Replies IsAnswerOf IsActOf (λ site. site.changed) (λ path query wait. wait ≡ wait_of path query) hosts

-- A status server served a site from its first look on, whose node may be asked to leave or may not, and has its
-- recording in this folder if it has one: the site went on from there, and its pass is what is left of it. If the
-- server's slots were free, each request was answered from a state that the site had on the way, those of connections
-- that have ended too.
pub record HasServedSite
    (name : List ℕ) (config : ShownConfig) (leave : Bool) (folder : Option (List ℕ)) (hosts : Hosts)
    (before after : PassValue) (server server' : Server)
    : Type 0 where
  pub first : SiteValue
  pub last : SiteValue
  pub looked : OnlyLooked before first.pass
  pub is_first : IsFirst first name config leave folder
  pub goes_on : IsLater first last
  pub free : AreFree (slots_of server)
      → AreServed (SiteRepliesTo hosts) IsLater last server.slots server'.slots
  pub left : last.pass ≡ after

-- What a status server did, by how it ended. If its first look was refused, it served nobody. It stopped only if it was
-- told to, or after so many turns.
abbrev pub ServedAs :
    Served → List ℕ → ShownConfig → Bool → Option (List ℕ) → Hosts → (before after : PassValue)
    → (server server' : Server) → Type 0
ServedAs (Refused refusal) name config leave folder hosts before after server server' =
    OnlyLooked before after × (server' ≡ server) × ((refusal ≡ NoMemory) ⊎ (refusal ≡ NoView))
ServedAs (Ended end counts) name config leave folder hosts before after server server' =
    HasServedSite name config leave folder hosts before after server server'
    × (end ≡ Stopped → IsTold server' ⊎ (2 ^ 64 - 1 ≤ counts.turns))

-- why a status server ended before its node; there is no line if it was told to stop
abbrev pub served_line : Served → List ℕ
served_line (Refused refusal) = codes "the status server couldn't begin: memory is refused\n"
served_line (Ended Stopped counts) = []
served_line (Ended (WaitFailed kind) counts) = codes "the status server ended early: the machine's wait failed\n"
