-- The relays: indirect probes of a target for another member, the asker. The target's Ack is passed on to the asker
-- (SWIM, section 3.1). If none comes in time, the asker gets a Nack (Lifeguard, local health aware probe).
use Rattle.std.specs.Prelude.{ℕ, Bool, false, ◌||◌, ◌==◌, List, [], ◌∷◌, ◌++◌, length, map, if◌then◌else◌}
use Rattle.std.specs.List.{list_any}
use Rattle.std.specs.Option.{option_to_list}
use Rattle.lg_timers.specs.declared.timer.TimerId.{TimerId}
use Rattle.lg_timers.specs.declared.timer.TimerId.TheVariants.{RelayNack, RelayEnd}
use Rattle.lg_probe.specs.declared.relays.Asker.{Asker}
use Rattle.lg_probe.specs.declared.relays.Relay.{Relay}
use Rattle.lg_probe.specs.Meaning.Relays.{RelayFact, Opened, TargetAcked, Closed, relays_after}
use Rattle.lg_membership.specs.Meaning.Log as group
use Rattle.lg_detector.specs.Meaning.Log.{Log, Fired, AckHeard, Relayed, OfGroup, moment}
use Rattle.lg_detector.specs.Meaning.Probing.{number, probe}

-- the most relays that are open (this project's choice)
abbrev pub most_relays : ℕ
most_relays = 64

-- a relay that takes the next sequence number
abbrev pub new_relay : ℕ → List ℕ → Asker → Relay
new_relay k target asker = record { number = k; target = target; asker = asker }

-- What happened to relays since the opening, the latest first: one was opened, an Ack came, or the time of one ran out.
-- A relay that is opened ends an earlier one that still has its number, since the numbers begin anew behind the
-- greatest (this project's choice).
abbrev pub closed_by : TimerId → List RelayFact → List RelayFact
closed_by (RelayEnd k) past = Closed k ∷ past
closed_by _ past = past

abbrev pub relay_past : Log → List RelayFact
relay_past [] = []
relay_past (OfGroup (group.Opened opening) ∷ log) = []
relay_past (Fired timer words ∷ log) = closed_by timer.id (relay_past log)
relay_past (AckHeard k sender ∷ log) = TargetAcked k sender ∷ relay_past log
relay_past (Relayed target asker ∷ log) =
    Opened (new_relay (number log) target asker) ∷ Closed (number log) ∷ relay_past log
relay_past (_ ∷ log) = relay_past log

-- the relays that are open, in the order in which they were opened
abbrev pub relays : Log → List Relay
relays log = relays_after (relay_past log)

-- the sequence numbers in use: that of the probe that runs, and those of the open relays
abbrev pub numbers_in_use : Log → List ℕ
numbers_in_use log = map (λ p. p.number) (option_to_list (probe log)) ++ map (λ r. r.number) (relays log)

-- whether the next sequence number is one of them
abbrev pub is_next_in_use : Log → Bool
is_next_in_use log = list_any (λ k. k == number log) (numbers_in_use log)

-- the moment at which the relay with a number was opened
abbrev pub opened_at : Log → ℕ → ℕ
opened_at [] k = 0
opened_at (Relayed target asker ∷ log) k = if number log == k then moment log else opened_at log k
opened_at (_ ∷ log) k = opened_at log k

-- whether that relay has sent its Nack
abbrev pub is_nack_of : ℕ → TimerId → Bool
is_nack_of k (RelayNack j) = k == j
is_nack_of k _ = false

abbrev pub relay_has_nacked : Log → ℕ → Bool
relay_has_nacked [] k = false
relay_has_nacked (Fired timer words ∷ log) k = is_nack_of k timer.id || relay_has_nacked log k
relay_has_nacked (Relayed target asker ∷ log) k = if number log == k then false else relay_has_nacked log k
relay_has_nacked (_ ∷ log) k = relay_has_nacked log k

-- whether as many relays are open as are allowed
abbrev pub is_full : List Relay → Bool
is_full open_ones = length open_ones == most_relays
