-- The event Leave, as functions of the state.
use Rattle.std.specs.Prelude.{ℕ, List, [], option_map, if◌then◌else◌}
use Rattle.std.specs.List.{filter_map}
use Rattle.lg_rules.specs.declared.claim.Claim.{Claim}
use Rattle.lg_probe.specs.Meaning.Helpers.{picked}
use Rattle.lg_membership.specs.Meaning.Gossip.{version_sent}
use Rattle.lg_membership.specs.Support.State.{shown}
use Rattle.lg_detector.specs.declared.reply.Outgoing.{Outgoing}
use Rattle.lg_detector.specs.declared.detector.leave.LeaveNotice.{LeaveNotice}
use Rattle.lg_detector.specs.Meaning.Groups.{own_group}
use Rattle.lg_rules.specs.Meaning.Own.{own_record}
use Rattle.lg_detector.specs.Meaning.Leave.{leave_body, most_told}
use Rattle.lg_detector.specs.Meaning.Tick.{found}
use Rattle.lg_detector.specs.Support.State.{State, come_state, depart}
use Rattle.lg_detector.specs.Support.Joining.{own_packet_state}

abbrev pub leave_state : ℕ → State → State
leave_state now s = depart (come_state now s)

abbrev pub told_of_leave_state : List ℕ → State → List (List ℕ)
told_of_leave_state words s = picked most_told words s.order.names

abbrev pub leave_packet_state : State → Claim → Outgoing
leave_packet_state s r = own_packet_state r.addr (leave_body (version_sent s.membership.config)) s

-- what each of the packets has
abbrev pub leave_notice_state : State → LeaveNotice
leave_notice_state s = record {
  version = version_sent s.membership.config;
  group = own_group s.membership.config;
  sender = s.membership.own.name;
  own = own_record s.membership.own;
}

-- the packets to those of these names that have a record
abbrev pub leave_packets_to : List (List ℕ) → State → List Outgoing
leave_packets_to names s =
    filter_map (λ m. option_map (leave_packet_state s) (found m (shown s.membership))) names

abbrev pub leave_packets_state : List ℕ → State → List Outgoing
leave_packets_state words s = leave_packets_to (told_of_leave_state words s) s

abbrev pub leave_sends_state : ℕ → List ℕ → State → List Outgoing
leave_sends_state now words s =
    if s.membership.own.left then [] else leave_packets_state words (leave_state now s)
