-- A cluster after some commands, and what one more command does to it.
use Rattle.std.specs.Prelude.{
  ◌≡◌,
  ⊤,
  ℕ,
  ◌<◌,
  Bool,
  true,
  false,
  ◌&&◌,
  ◌||◌,
  not,
  nat_le,
  List,
  [],
  ◌∷◌,
  ◌++◌,
  length,
  map,
  Option,
  Some,
  None,
  is_some,
  Result,
  Ok,
  Err,
  is_err,
  if◌then◌else◌,
}
use Rattle.std.specs.List.{cons_option, list_any, position}
use Rattle.std.specs.Option.{option_map}
use Rattle.lg_rules.specs.declared.addr.Addr.{Addr}
use Rattle.lg_timing.specs.Meaning.Config.{check_of}
use Rattle.lg_timing.specs.declared.config.Config.{Config}
use Rattle.lg_detector.specs.Meaning.Step.{most_events}
use Rattle.lg_detector.specs.Support.Step.{state_after}
use Rattle.lg_detector.specs.declared.event.Event.{Event}
use Rattle.lg_script.specs.declared.command.Command.{Command}
use Rattle.lg_script.specs.declared.fault.ScriptFault.{ScriptFault}
use Rattle.lg_script.specs.declared.fault.ScriptFault.TheVariants as fault
use Rattle.lg_sim.specs.Meaning.Members.{Happening, events_of, is_at, is_named, member_named, sent}
use Rattle.lg_sim.specs.Meaning.Outcome.{happening_text, most_opened, text_of}
use Rattle.lg_sim.specs.Meaning.Past.{happenings, arrival, opened, settings}
use Rattle.lg_sim.specs.Meaning.Text.{line_text, with_line}
use Rattle.lg_sim.specs.declared.cluster.Cluster.{Cluster}
use Rattle.lg_sim.specs.declared.cluster.Stop.{Stop}
use Rattle.lg_sim.specs.declared.cluster.Stop.TheVariants.{NoMemory, Faulty}
use Rattle.lg_sim.specs.declared.host.Host.{Host}
use Rattle.lg_sim.specs.declared.host.Member.{Member}
use Rattle.lg_sim.specs.declared.host.SentPacket.{SentPacket}

-- a member, with its detector after what happened
abbrev pub host_after : List Happening → Member → Host
host_after past m = record { member = m; detector = state_after (events_of m.name past) }

-- whether no two members have the same name
abbrev pub are_distinct_members : List Member → Bool
are_distinct_members [] = true
are_distinct_members (m ∷ ms) = not (list_any (is_named m.name) ms) && are_distinct_members ms

abbrev pub is_begun : List Event → Bool
is_begun [] = false
is_begun (e ∷ es) = true

-- The hosts and the packets sent are those of some members after what happened at them. A name has events exactly if
-- a member of that name is open.
pub record IsCluster (hosts : List Host) (packets : List SentPacket) (members : List Member) (past : List Happening)
    : Type 0 where
  pub hosts_are : hosts ≡ map (host_after past) members
  pub packets_are : packets ≡ sent past
  pub distinct : are_distinct_members members ≡ true
  pub begun : (name : List ℕ) → is_some (member_named name members) ≡ is_begun (events_of name past)

-- A cluster is after some commands, the latest first.
pub record IsClusterAfter (cluster : Cluster) (before : List Command) : Type 0 where
  pub settings_are : cluster.settings ≡ settings before
  pub is : IsCluster cluster.hosts.items cluster.sent.items (opened before) (happenings before)

-- A cluster is after some commands, so few that each detector accepts one more event.
pub record IsClusterReached (cluster : Cluster) : Type 0 where
  pub before : List Command
  pub few : length before < most_events
  pub after : IsClusterAfter cluster before

-- What a command makes happen, if anything, happened in a cluster, and its lines were appended to a text.
pub record LedOn (old new : Cluster) (text longer : List ℕ) (members : List Member) (past : List Happening)
    (happening : Option Happening) : Type 0 where
  pub after : IsCluster new.hosts.items new.sent.items members (cons_option happening past)
  pub settings_stay : new.settings ≡ old.settings
  pub writes : longer ≡ text ++ happening_text happening past

-- A command stops at its fault, or when memory is refused.
abbrev pub StopsAt : Result (Unit {0}) Stop → Option ScriptFault → Type 0
StopsAt (Ok done) fault = fault ≡ None
StopsAt (Err (Faulty found)) fault = fault ≡ Some found
StopsAt (Err NoMemory) fault = ⊤

-- why a member can't be opened, found from the hosts
abbrev pub fault_in : Config → List Host → Option ScriptFault
fault_in config hosts =
    if is_err (check_of config) then Some fault.Value
    else (if is_some (position (λ host. is_named config.name host.member) hosts)
    || is_some (position (λ host. is_at config.addr host.member) hosts) then Some fault.Double
    else (if nat_le most_opened (length hosts) then Some fault.Full else None))

-- where a packet goes, and what happens there when it is delivered
abbrev pub delivery_of : ℕ → Option SentPacket → Option (Addr × Event)
delivery_of now packet = option_map (λ p. (p.outgoing.to, arrival now p)) packet

-- A command was carried out after some others: the cluster is after it too, and what it gives was appended to a text.
pub record RanCommand (cluster : Cluster) (text longer : List ℕ) (before : List Command) (command : Command)
    : Type 0 where
  pub after : IsClusterAfter cluster (command ∷ before)
  pub writes : longer ≡ text ++ text_of command before

-- The same for a line, which may have no command.
pub record RanLine (cluster : Cluster) (text longer : List ℕ) (before : List Command) (line : List ℕ) : Type 0 where
  pub after : IsClusterAfter cluster (with_line line before)
  pub writes : longer ≡ text ++ line_text line before
