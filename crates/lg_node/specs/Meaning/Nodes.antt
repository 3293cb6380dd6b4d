-- What a node does from its opening to its end.
use Rattle.std.specs.Prelude.{◌≡◌, ◌<◌, ◌⊎◌, ℕ, ◌+◌, ◌^◌, Bool, true, false, List, [], ◌∷◌}
use Rattle.std.specs.Prelude.{Option, Some, None, is_some, Result, MatchResult, Vec}
use Rattle.std.specs.declared.alloc.Global.{Global}
use Rattle.lg_rules.specs.declared.addr.Addr.{Addr}
use Rattle.lg_rules.specs.declared.claim.Claim.{Claim}
use Rattle.lg_timing.specs.declared.config.Config.{Config}
use Rattle.lg_text.specs.Meaning.Reporting.{Reported, Reports}
use Rattle.lg_detector.specs.declared.event.Event.TheVariants.{Open}
use Rattle.lg_detector.specs.Meaning.Step.{view_after, most_events}
use Rattle.lg_agent.specs.declared.refusal.Refusal.{Refusal}
use Rattle.lg_agent.specs.declared.refusal.Refusal.TheVariants.{BadPacket, NoMemory, HistoryFull}
use Rattle.lg_agent.specs.declared.refusal.Refusal.TheVariants.{Behind, NoPlace, NoView}
use Rattle.lg_agent.specs.Meaning.Values.{PassValue}
use Rattle.lg_agent.specs.Meaning.Calls.{IsLook}
use Rattle.lg_agent.specs.Meaning.Closing.{IsClosed, IsRefusedClosing}
use Rattle.lg_follow.specs.declared.watched.Watched.{Watched}
use Rattle.lg_follow.specs.Meaning.Sights.{HasWatched, OnlyLooked}
use Rattle.lg_http.specs.declared.server.ServerEnd.TheVariants as server
use Rattle.lg_http.specs.declared.server.Server.{Server}
use Rattle.lg_http.specs.Meaning.Slots.{AreFree, slots_of}
use Rattle.lg_answers.specs.declared.snapshot.ShownConfig.{ShownConfig}
use Rattle.lg_status_server.specs.declared.serving.Served.{Served}
use Rattle.lg_status_server.specs.declared.serving.Served.TheVariants as served
use Rattle.lg_status_server.specs.Meaning.Served.{served_line, ServedAs}
use Rattle.lg_turns.specs.declared.ending.LoopEnd.{LoopEnd}
use Rattle.lg_node.specs.declared.node.NodeEnd.{NodeEnd}
use Rattle.lg_node.specs.declared.node.NodeFault.{NodeFault}
use Rattle.lg_node.specs.declared.node.NodeFault.TheVariants.{Socket, Status, Clock, Refused}
use Rattle.lg_node.specs.declared.node.Settings.{Settings}
use Rattle.lg_turns.specs.declared.node_link.NodeLink.{NodeLink}
use Rattle.lg_turns.specs.declared.shared.TheConstants.{MAX_TURNS}
use Rattle.lg_turns.specs.Meaning.Turns.{line, LinkValue}
use Rattle.lg_turns.specs.Meaning.Asking.{Asked}
use Rattle.lg_turns.specs.Meaning.Recorders.{OnlyRotated}
use Rattle.lg_turns.specs.Meaning.NodeLinks.{failures_of, link_keys}
use Rattle.lg_turns.specs.Meaning.Pulling.{plan_of}
use Rattle.lg_turns.specs.Meaning.BothLoops.{BothRan}
use Rattle.lg_node.specs.Meaning.Starts.{hosts_of, stall_of, turn_wait, Shows}
use Rattle.lg_turns.specs.Meaning.Words.{seeded, DrawsEight}

-- the pass with this seat of an agent that was opened at a moment: it has seen the opening, and made no call
abbrev pub fresh_own : Config → ℕ → ℕ → PassValue
fresh_own config start place =
    record { name = config.name; seat = place; seen = Open start config ∷ []; gone = 0; mine = [] }

-- Both links of a node, before their first call: each seals and opens with the keys of its settings, if these have any,
-- and hasn't failed. Contracts see nothing else of a link over UDP.
pub record AreLinks (settings : Settings) (hears sends : LinkValue) : Type 0 where
  pub receiving : NodeLink
  pub receiving_keys : link_keys receiving ≡ settings.keys
  pub receiving_is : hears ≡ line [] (failures_of receiving)
  pub receiving_unfailed : failures_of receiving ≡ 0
  pub ticking : NodeLink
  pub ticking_keys : link_keys ticking ≡ settings.keys
  pub ticking_is : sends ≡ line [] (failures_of ticking)
  pub ticking_unfailed : failures_of ticking ≡ 0

-- One pass asked the seeds at these addresses, and then both loops ran, each with a pass of its own. The ticking loop
-- ran over the link by which the seeds were asked, and learned other addresses of seeds only if it was to. Each turn of
-- receiving waited at most so many milliseconds. When the ticking loop was told to stop or its end time came, this
-- member left its group if it writes its packets in version 3, and the loop went on for one interval. If no thread
-- could be started, the ticking loop made no turn.
pub record HasServed
    {D : Type 0} (throws : D → List ℕ → D → Type 0) (dice : D) (tells : Bool) (bound wait : ℕ) (config : Config)
    (seeds : List Addr) (learns : Bool) (pull_ms until start : ℕ) (hears hears' sends sends' : LinkValue)
    (received ticked : LoopEnd) (receiver ticker asker : PassValue)
    : Type 0 where
  pub between : LinkValue
  -- how many packets weren't sent to the seeds, and how many later
  pub unsent : ℕ
  pub later : ℕ
  pub asked : Asked tells seeds sends between (fresh_own config start 3) asker unsent
  pub ran : BothRan wait throws dice (plan_of config seeds learns pull_ms until) tells bound true
      hears hears' (fresh_own config start 1) receiver received
      between sends' (fresh_own config start 2) ticker (record ticked { unsent = later })
  pub counted : later + unsent < 2 ^ 64 → ticked.unsent ≡ later + unsent

-- What the pass that had asked the seeds did beside the loops. If the node was followed, it watched, and `held` and
-- `holds` are the bytes that the writer had taken before and after. Otherwise it did nothing.
abbrev pub WatchesIf :
    Bool → (before after : PassValue) (held holds : Option (List ℕ)) → Option Watched → Type 0
WatchesIf true before after held holds (Some end) = HasWatched before after held holds end
WatchesIf true before after held holds None = ⊥
WatchesIf false before after held holds (Some end) = ⊥
WatchesIf false before after held holds None = after ≡ before

-- What the recorder did, if the node was recorded: its pass only rotated. If it wasn't, its pass did nothing.
abbrev pub RecordsIf : Bool → (before after : PassValue) → Type 0
RecordsIf true before after = OnlyRotated before after
RecordsIf false before after = after ≡ before

-- What a status server did, from its state `server` to its state `server'`, by how it ended. If its first look was
-- refused, or memory for what it shows, it served nobody. Otherwise it did what a status server does that shows this
-- configuration and these settings, under the name of the node's member, to the hosts of its address, lets itself be
-- asked to leave if the settings say so, and tells of the recording in the folder that they name, if they name one.
abbrev pub DidServe :
    Config → Settings → (before after : PassValue) (server server' : Server) → Served → Type 0
DidServe config settings before after server server' (served.Refused refusal) =
    (server' ≡ server) × ((refusal ≡ NoMemory) ⊎ (refusal ≡ NoView))
DidServe config settings before after server server' (served.Ended end counts) =
    (shown : ShownConfig) × Shows config settings shown
    × ServedAs (served.Ended end counts) config.name shown settings.leave settings.record_folder
    (hosts_of settings.status) before after server server'

-- A status server that began with free slots did this. Its pass only looked, however it ended.
pub record ServesNode (config : Config) (settings : Settings) (before after : PassValue) (end : Served) : Type 0 where
  pub looked : OnlyLooked before after
  pub server : Server
  pub server' : Server
  pub free : AreFree (slots_of server)
  pub did : DidServe config settings before after server server' end

-- What the status server did beside the loops, if there was one. If there was none, its pass did nothing.
abbrev pub ServesIf : Bool → Config → Settings → (before after : PassValue) → Option Served → Type 0
ServesIf true config settings before after (Some end) = ServesNode config settings before after end
ServesIf true config settings before after None = ⊥
ServesIf false config settings before after (Some end) = ⊥
ServesIf false config settings before after None = after ≡ before

-- What the stream of faults gained by a status server that ended so, if there was one. If it ended by itself, its line
-- was reported. If it was told to stop, nothing was.
abbrev pub TellsServed : Option Served → (before after : Reported) → Type 0
TellsServed None before after = after ≡ before
TellsServed (Some (served.Ended server.Stopped counts)) before after = after ≡ before
TellsServed (Some end) before after = Reports before after (served_line end)

-- What a node did from its opening, at the moment `start`, until its loops had ended, and what they left. It made its
-- links, asked its seeds and ran its loops with the random words that `dice` seeds. A turn of receiving waited as the
-- timeout and the stall say. The pass that had asked the seeds watched beside the loops, if the node was followed. A
-- fourth pass looked for the status server, if there was one. Then the members were read, which may have been refused.
-- `held` and `holds` are the bytes that the writer had taken before and after.
pub record HasWorked
    (config : Config) (settings : Settings) (until start : ℕ) (held holds : Option (List ℕ)) (received ticked : LoopEnd)
    (watched : Option Watched) (served : Option Served) (members : Result (Vec Claim Global) Refusal)
    (receiver ticker reader status : PassValue)
    : Type 0 where
  pub hears : LinkValue
  pub hears' : LinkValue
  pub sends : LinkValue
  pub sends' : LinkValue
  pub asker : PassValue
  pub watcher : PassValue
  pub links : AreLinks settings hears sends
  pub looped : HasServed DrawsEight (seeded settings.dice) false MAX_TURNS
      (turn_wait config.timeout_ms (stall_of settings.stall_ms)) config settings.seeds.items settings.learns
      settings.pull_ms until start hears hears' sends sends' received ticked receiver ticker asker
  pub told : WatchesIf settings.follow asker watcher held holds watched
  pub shown : ServesIf (is_some settings.status) config settings (fresh_own config start 4) status served
  pub read : MatchResult members (λ records. (records.items ≡ view_after reader.seen) × IsLook watcher reader)
      (λ r. ((r ≡ NoView) ⊎ (r ≡ NoMemory)) × (reader ≡ watcher))

-- A node ran with a configuration and settings until a moment, or until something ended it before. It opened an agent
-- with five places, did its work, which a fifth pass recorded if the node was to be recorded, and closed the agent with
-- what the five passes left. Closing may have been refused.
pub record IsRun
    (config : Config) (settings : Settings) (until : ℕ) (held holds : Option (List ℕ)) (records : Bool) (e : NodeEnd)
    : Type 0 where
  pub start : ℕ
  pub receiver : PassValue
  pub ticker : PassValue
  pub reader : PassValue
  pub status : PassValue
  pub recorder : PassValue
  pub recorded : RecordsIf records (fresh_own config start 5) recorder
  pub worked : HasWorked config settings until start held holds e.received e.ticked e.watched e.served e.members
      receiver ticker reader status
  pub closed : MatchResult e.closed (λ c. IsClosed 5 c (receiver ∷ ticker ∷ reader ∷ status ∷ recorder ∷ []))
      (λ f. IsRefusedClosing 5 (receiver ∷ ticker ∷ reader ∷ status ∷ recorder ∷ []) f)

-- What a node can be refused for before its loops. Memory can be refused throughout, and a reader for a pass at the
-- opening. The call that asks a seed can be refused for a full history, which has the configuration's limit or the most
-- events that a detector accepts. Its pass can have seen more events than there are.
abbrev pub IsRefusedEarly : Config → Refusal → Type 0
IsRefusedEarly config (BadPacket fault) = ⊥
IsRefusedEarly config NoMemory = Unit {0}
IsRefusedEarly config (HistoryFull limit) = (limit ≡ config.history_limit) ⊎ (limit ≡ most_events)
IsRefusedEarly config (Behind seen here) = here < seen
IsRefusedEarly config NoPlace = Unit {0}
IsRefusedEarly config NoView = ⊥

-- why a node can end before its loops
abbrev pub IsEarly : Config → NodeFault → Type 0
IsEarly config (Socket kind) = Unit {0}
IsEarly config (Status kind) = Unit {0}
IsEarly config Clock = Unit {0}
IsEarly config (Refused refusal) = IsRefusedEarly config refusal
