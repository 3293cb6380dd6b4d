-- Worked rows of what replies count. b is opened at 0; the others are a, c and d.
use Rattle.std.specs.Prelude.{◌≡◌, true, false, List, [], ◌∷◌, ◌++◌, refl}
use Rattle.lg_rules.specs.declared.claim.Status.TheVariants.{Left}
use Rattle.lg_rules.specs.declared.version.Version.TheVariants.{Three}
use Rattle.lg_timing.specs.Meaning.Config.{defaults}
use Rattle.lg_packet.specs.declared.packet.Body.TheVariants.{Gossip, PingReq}
use Rattle.lg_detector.specs.declared.event.Event.{Event}
use Rattle.lg_detector.specs.declared.event.Event.TheVariants.{Leave, Open}
use Rattle.lg_detector.specs.Meaning.Examples.{by_computing, a, b, c, at, alive, on, suspect}
use Rattle.lg_detector.specs.Meaning.Examples.{opening, pings, says, says_in, ticks}
use Rattle.lg_detector.specs.Meaning.Step.{reply_after}
use Rattle.lg_counters.specs.declared.tally.Tally.{Tally}
use Rattle.lg_counters.specs.Meaning.Tally.{tally_of}

abbrev tally_after : List Event → Event → Tally
tally_after events e = tally_of (b ∷ []) (reply_after events e)

abbrev nothing : Tally
nothing = record {
  probe_begun = false;
  probe_failed = false;
  probe_helped = false;
  suspicions_raised = 0;
  refuted = false;
  members_forgotten = 0;
}

-- the events up to a Ping by which c is known
abbrev known : List Event
known = opening 0 ∷ pings 5 1 b (alive c 0 ∷ []) ∷ []

-- a Ping is answered by an Ack, and nothing is counted of that
pinged : tally_after (opening 0 ∷ []) (pings 5 1 b (alive c 0 ∷ [])) ≡ nothing
unfolding by_computing
pinged = refl

-- the first tick starts a round, which pings c
begins_a_probe : tally_after known (ticks 5) ≡ record nothing { probe_begun = true }
unfolding by_computing
begins_a_probe = refl

-- with nobody else known no probe is begun
begins_none : tally_after (opening 0 ∷ []) (ticks 0) ≡ nothing
unfolding by_computing
begins_none = refl

-- no Ack came within the timeout of 500 ms
fails : tally_after (opening 0 ∷ pings 0 1 b (alive c 0 ∷ []) ∷ ticks 0 ∷ []) (ticks 500)
    ≡ record nothing { probe_failed = true }
unfolding by_computing
fails = refl

-- a asks b to probe c
helps : tally_after known (says 6 (PingReq 9 (c ∷ []) (at 7000)) []) ≡ record nothing { probe_helped = true }
unfolding by_computing
helps = refl

raises_a_suspicion : tally_after known (pings 20 2 b (suspect c 0 a ∷ [])) ≡ record nothing { suspicions_raised = 1 }
unfolding by_computing
raises_a_suspicion = refl

refutes_a_claim : tally_after known (pings 20 2 b (suspect b 0 a ∷ [])) ≡ record nothing { refuted = true }
unfolding by_computing
refutes_a_claim = refl

-- b leaves: its own record changes, and it refutes nothing
leaves : tally_after known (Leave 20 (0 ∷ 0 ∷ 0 ∷ 0 ∷ 0 ∷ 0 ∷ 0 ∷ 0 ∷ [])) ≡ nothing
unfolding by_computing
leaves = refl

-- nor does it afterwards, also when its incarnation rises
refutes_nothing_once_it_left :
    tally_after (known ++ Leave 20 (0 ∷ 0 ∷ 0 ∷ 0 ∷ 0 ∷ 0 ∷ 0 ∷ 0 ∷ []) ∷ []) (pings 30 2 b (suspect b 4 a ∷ []))
    ≡ nothing
unfolding by_computing
refutes_nothing_once_it_left = refl

-- b, which has the seed c, forgets who is gone after one second. c leaves at 10. The first tick at 1010 starts a round.
abbrev opening_to_forget : Event
opening_to_forget =
    Open 0
    (record (defaults (b ∷ []) (at 7000)) {
      wire = 3;
      gossip_ms = 0;
      forget_ms = 1000;
      seeds = record { items = record { name = c ∷ []; addr = at 7000 } ∷ [] };
    })

forgets_a_member :
    tally_after
    (opening_to_forget ∷ says_in Three 10 Gossip (on c Left 0 ∷ []) ∷ ticks 10 ∷ ticks 1010 ∷ []) (ticks 1010)
    ≡ record nothing { members_forgotten = 1 }
unfolding by_computing
forgets_a_member = refl
