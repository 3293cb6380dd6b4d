-- What is known of all hosts among the seeds, round by round (this project's choice).
use Rattle.std.specs.Prelude.{◌≡◌, ℕ, min, Bool, List, [], ◌∷◌, ◌++◌, length, map, if◌then◌else◌}
use Rattle.std.specs.List.{flat_map, list_any}
use Rattle.lg_rules.specs.declared.addr.Addr.{Addr}
use Rattle.lg_text.specs.Meaning.Reporting.{Reported}
use Rattle.lg_config.specs.declared.host.Host.{Host}
use Rattle.lg_resolve.specs.declared.known.KnownHost.{KnownHost}
use Rattle.lg_resolve.specs.Meaning.Answers.{news_of, Found, IsAfter}
use Rattle.lg_resolve.specs.Meaning.Lines.{Tells}

-- the hosts, in the order of the file
abbrev pub hosts_in : List KnownHost → List Host
hosts_in rows = map (λ known. known.host) rows

-- What is known of each host is what its own answers say of it.
abbrev pub AreAfter : List (List Found) → List KnownHost → Type 0
AreAfter [] [] = Unit {0}
AreAfter (answers ∷ histories) (known ∷ rows) = IsAfter answers known × AreAfter histories rows
AreAfter _ _ = ⊥

-- hosts of which nothing was answered
abbrev pub are_fresh : List Host → List (List Found)
are_fresh hosts = map (λ host. []) hosts

-- the answers of each host after one more round, in which each got one
abbrev pub longer : List (List Found) → List Found → List (List Found)
longer (answers ∷ histories) (found ∷ more) = (answers ++ found ∷ []) ∷ longer histories more
longer histories _ = histories

-- The news of each host were told, in order: what is told of one more answer behind its own answers before.
abbrev pub TellsEach : (before after : Reported) → List Host → List (List Found) → List Found → Type 0
TellsEach before after (host ∷ hosts) (answers ∷ histories) (found ∷ more) =
    (told : Reported) × Tells before told host.name (news_of answers found)
    × TellsEach told after hosts histories more
TellsEach before after _ _ _ = after ≡ before

-- A round: each host got one answer, what is known of it is what its answers say with this one, and the news of each
-- were told.
pub record IsRound
    (histories : List (List Found)) (found : List Found) (before after : List KnownHost) (reported reports : Reported)
    : Type 0 where
  pub each : length found ≡ length before
  pub known : AreAfter (longer histories found) after
  pub told : TellsEach reported reports (hosts_in before) histories found

-- the addresses that they have, in the order of the hosts
abbrev pub found_in : List KnownHost → List Addr
found_in rows = flat_map (λ known. known.addrs.items) rows

-- whether one of them doesn't resolve
abbrev pub fails_any : List KnownHost → Bool
fails_any rows = list_any (λ known. known.fails) rows

-- How long it is from one round to the next: after one in which a host didn't resolve as long as a retry waits, and
-- never longer than after another.
abbrev pub next_wait : Bool → ℕ → ℕ → ℕ
next_wait fails retry every = if fails then min retry every else every
