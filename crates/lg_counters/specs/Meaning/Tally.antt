-- What one reply counts for the metrics of a node.
use Rattle.std.specs.Prelude.{ℕ, ◌-◌, length, Bool, true, false, ◌&&◌, is_none, List, Option, Some, None, count_by}
use Rattle.std.specs.List.{list_any}
use Rattle.std.specs.Str.{bytes_eq}
use Rattle.lg_rules.specs.declared.claim.Claim.{Claim}
use Rattle.lg_rules.specs.declared.claim.Status.{Status}
use Rattle.lg_rules.specs.declared.claim.Status.TheVariants.{Alive, Suspect}
use Rattle.lg_packet.specs.declared.packet.Body.{Body}
use Rattle.lg_packet.specs.declared.packet.Body.TheVariants.{Ping}
use Rattle.lg_timers.specs.declared.timer.Timer.{Timer}
use Rattle.lg_timers.specs.declared.timer.TimerId.{TimerId}
use Rattle.lg_timers.specs.declared.timer.TimerId.TheVariants.{RoundStart, Direct}
use Rattle.lg_detector.specs.declared.reply.Outgoing.{Outgoing}
use Rattle.lg_detector.specs.declared.reply.Reply.{Reply}
use Rattle.lg_counters.specs.declared.tally.Tally.{Tally}
use Rattle.lg_counters.specs.declared.noted.Noted.{Noted}

-- whether a packet is a Ping, and whether a reply sends one
abbrev pub is_ping_body : Body → Bool
is_ping_body (Ping number target) = true
is_ping_body _ = false

abbrev pub is_ping : Outgoing → Bool
is_ping outgoing = is_ping_body outgoing.packet.body

abbrev pub pings : Reply → Bool
pings r = list_any is_ping r.sends.items

-- whether the timer that fired starts a round, or says that no Ack came in time
abbrev pub is_start_id : TimerId → Bool
is_start_id RoundStart = true
is_start_id _ = false

abbrev pub is_direct_id : TimerId → Bool
is_direct_id Direct = true
is_direct_id _ = false

abbrev pub is_start : Option Timer → Bool
is_start None = false
is_start (Some timer) = is_start_id timer.id

abbrev pub is_direct : Option Timer → Bool
is_direct None = false
is_direct (Some timer) = is_direct_id timer.id

-- whether a record is that of a suspect
abbrev pub is_suspected_status : Status → Bool
is_suspected_status (Suspect accuser) = true
is_suspected_status _ = false

abbrev pub is_suspected : Claim → Bool
is_suspected c = is_suspected_status c.status

-- whether a record says that the member with this name is alive
abbrev pub is_alive_status : Status → Bool
is_alive_status Alive = true
is_alive_status _ = false

abbrev pub is_alive_of : List ℕ → Claim → Bool
is_alive_of name c = bytes_eq c.name name && is_alive_status c.status

-- A Ping begins a probe if a round starts with it. If no timer fired, it was asked for by another member. The record of
-- this member becomes Alive only if it refutes a claim: its incarnation rises then. When it leaves, its record becomes
-- Left, and that refutes nothing. A member that was forgotten and is known again counts among the forgotten ones.
abbrev pub tally_of : List ℕ → Reply → Tally
tally_of name r = record {
  probe_begun = pings r && is_start r.fired;
  probe_failed = is_direct r.fired;
  probe_helped = pings r && is_none r.fired;
  suspicions_raised = count_by is_suspected r.changed.items;
  refuted = list_any (is_alive_of name) r.changed.items;
  members_forgotten = length r.forgotten.items;
}

-- What a node counts of a reply of which so many packets weren't sent: the others were.
abbrev pub noted_of : List ℕ → Reply → ℕ → Noted
noted_of name r unsent = record {
  sent = length r.sends.items - unsent;
  unsent = unsent;
  tally = tally_of name r;
}
