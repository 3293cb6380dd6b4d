-- Worked leaves of b, which is at 127.0.0.1:7000: whom it tells, what it drops, and what goes on.
use Rattle.std.specs.Prelude.{◌≡◌, ℕ, List, [], ◌∷◌, Some, None, refl}
use Rattle.lg_rules.specs.declared.claim.Claim.{Claim}
use Rattle.lg_rules.specs.declared.claim.Status.TheVariants.{Left}
use Rattle.lg_rules.specs.declared.version.Version.TheVariants.{One, Two, Three}
use Rattle.lg_timing.specs.declared.config.Seed.{Seed}
use Rattle.lg_timing.specs.Meaning.Config.{defaults}
use Rattle.lg_packet.specs.declared.packet.Body.TheVariants.{Ping, Ack, Page, Gossip}
use Rattle.lg_detector.specs.declared.event.Event.{Event}
use Rattle.lg_detector.specs.declared.event.Event.TheVariants.{Open, Health, Leave}
use Rattle.lg_detector.specs.declared.reply.Answer.TheVariants.{Health as OfHealth}
use Rattle.lg_detector.specs.Meaning.Window.{targets}
use Rattle.lg_detector.specs.Meaning.Step.{reply_after, view_after}
use Rattle.lg_detector.specs.Meaning.Examples.{by_computing, a, b, c, at, on, suspect, says_in, sent_in, nothing}
use Rattle.lg_detector.specs.Meaning.Examples.{log_after, start_of_round, ticks}

-- b is opened with a `wire` and these seeds, and gossips no news.
abbrev seed : ℕ → ℕ → Seed
seed letter port = record { name = letter ∷ []; addr = at port }

abbrev opening_in : ℕ → List Seed → Event
opening_in wire seeds =
    Open 0
    (record (defaults (b ∷ []) (at 7000)) { wire = wire; gossip_ms = 0; seeds = record { items = seeds } })

abbrev left : ℕ → Claim
left letter = on letter Left 0

-- b leaves at a moment, by words of which the first two are these.
abbrev leaves_by : ℕ → ℕ → ℕ → Event
leaves_by now first second = Leave now (first ∷ second ∷ 0 ∷ 0 ∷ 0 ∷ 0 ∷ 0 ∷ 0 ∷ [])

abbrev leaves : ℕ → Event
leaves now = leaves_by now 0 0

-- WHOM IT TELLS
-- Word 1 picks c of a and c, and word 7 picks a of a. Each gets a Gossip that has b's record alone.
abbrev among_three : List Event
among_three = opening_in 3 (seed a 7001 ∷ seed c 7003 ∷ []) ∷ []

it_tells_both :
    reply_after among_three (leaves_by 10 1 7)
    ≡ record (nothing 0) {
      sends = record {
        items =
            record {
              to = at 7003;
              packet = record {
                version = Three;
                group = None;
                sender = b ∷ [];
                body = Gossip;
                claims = record { items = left b ∷ [] };
              };
            }
            ∷ sent_in Three 7001 Gossip (left b ∷ []);
      };
      changed = record { items = left b ∷ [] };
    }
unfolding by_computing
it_tells_both = refl

-- A further leave does nothing.
once_is_enough :
    reply_after (opening_in 3 (seed a 7001 ∷ seed c 7003 ∷ []) ∷ leaves_by 10 1 7 ∷ []) (leaves 30) ≡ nothing 0
unfolding by_computing
once_is_enough = refl

-- b counts itself all the same.
it_still_counts :
    (reply_after (opening_in 3 (seed c 7003 ∷ []) ∷ leaves 10 ∷ []) (Health 30)).answer ≡ Some (OfHealth 0 0 2)
unfolding by_computing
it_still_counts = refl

-- With nobody to tell, its record is Left all the same.
it_tells_nobody :
    reply_after (opening_in 3 [] ∷ []) (leaves 5) ≡ record (nothing 0) { changed = record { items = left b ∷ [] } }
unfolding by_computing
it_tells_nobody = refl

its_record_is_left : view_after (opening_in 3 [] ∷ leaves 5 ∷ []) ≡ left b ∷ []
unfolding by_computing
its_record_is_left = refl

-- Versions 1 and 2 have no Gossip, so that a Page goes to c.
by_pages_in_one :
    (reply_after (opening_in 1 (seed c 7003 ∷ []) ∷ []) (leaves 0)).sends.items ≡ sent_in One 7003 Page (left b ∷ [])
unfolding by_computing
by_pages_in_one = refl

by_pages_in_two :
    (reply_after (opening_in 2 (seed c 7003 ∷ []) ∷ []) (leaves 0)).sends.items ≡ sent_in Two 7003 Page (left b ∷ [])
unfolding by_computing
by_pages_in_two = refl

-- WHAT IT DROPS
-- b probes c, and leaves. Its helpers aren't asked at 500, and nobody is accused at 1000: the next start of a round
-- comes at 1100, chooses nobody, and sends nothing. The score stays.
abbrev probing_c : List Event
probing_c = opening_in 3 (seed c 7003 ∷ []) ∷ ticks 0 ∷ []

abbrev left_c : List Event
left_c = opening_in 3 (seed c 7003 ∷ []) ∷ ticks 0 ∷ leaves 100 ∷ []

the_probe_is_dropped :
    reply_after probing_c (leaves 100)
    ≡ record (nothing 1100) {
      sends = record { items = sent_in Three 7003 Gossip (left b ∷ []) };
      changed = record { items = left b ∷ [] };
    }
unfolding by_computing
the_probe_is_dropped = refl

no_helper_is_asked : reply_after left_c (ticks 500) ≡ nothing 1100
unfolding by_computing
no_helper_is_asked = refl

a_round_chooses_nobody :
    reply_after left_c (ticks 1100) ≡ record (nothing 2100) { fired = Some (start_of_round 1100) }
unfolding by_computing
a_round_chooses_nobody = refl

the_targets_end :
    targets (log_after (opening_in 3 (seed c 7003 ∷ []) ∷ ticks 0 ∷ leaves 100 ∷ ticks 1100 ∷ [])) [] ≡ (c ∷ []) ∷ []
unfolding by_computing
the_targets_end = refl

-- A start that is set stays, also if it is due.
abbrev left_at_once : List Event
left_at_once = opening_in 3 (seed c 7003 ∷ []) ∷ leaves 10 ∷ []

a_start_stays : reply_after left_at_once (ticks 10) ≡ record (nothing 1010) { fired = Some (start_of_round 0) }
unfolding by_computing
a_start_stays = refl

-- WHAT GOES ON
-- b answers a Ping. The queue has its record, Left, since what told its leave took nothing of the queue.
it_answers :
    reply_after left_at_once (says_in Three 20 (Ping 8 (b ∷ [])) [])
    ≡ record (nothing 0) { sends = record { items = sent_in Three 1 (Ack 8 (Some (a ∷ []))) (left b ∷ []) } }
unfolding by_computing
it_answers = refl

-- It refutes no suspicion, and marks no score for one.
it_refutes_nothing : reply_after left_at_once (says_in Three 20 Gossip (suspect b 0 a ∷ [])) ≡ nothing 0
unfolding by_computing
it_refutes_nothing = refl
