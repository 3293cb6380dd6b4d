-- Worked forgettings of b, which is at 127.0.0.1:7000: when each timer is set, what it does, and what comes after.
use Rattle.std.specs.Prelude.{◌≡◌, ℕ, false, List, [], ◌∷◌, Some, refl}
use Rattle.std.proofs.Common.{lit<}
use Rattle.lg_rules.specs.declared.claim.Claim.{Claim}
use Rattle.lg_rules.specs.declared.claim.Status.TheVariants.{Left}
use Rattle.lg_rules.specs.declared.version.Version.TheVariants.{Three}
use Rattle.lg_timing.specs.declared.config.Seed.{Seed}
use Rattle.lg_timing.specs.Meaning.Config.{defaults}
use Rattle.lg_packet.specs.declared.packet.Body.TheVariants.{Gossip}
use Rattle.lg_timers.specs.declared.timer.Timer.{Timer}
use Rattle.lg_timers.specs.declared.timer.TimerId.TheVariants.{RoundEnd, Direct, Forget}
use Rattle.lg_timers.specs.Meaning.Timers.{first_forget}
use Rattle.lg_detector.specs.declared.event.Event.{Event}
use Rattle.lg_detector.specs.declared.event.Event.TheVariants.{Open, Health}
use Rattle.lg_detector.specs.declared.reply.Answer.TheVariants.{Health as OfHealth}
use Rattle.lg_detector.specs.declared.reply.Reply.{Reply}
use Rattle.lg_detector.specs.Meaning.Forget.{Gone, gone}
use Rattle.lg_detector.specs.Meaning.Log.{Log, group_log}
use Rattle.lg_detector.specs.Meaning.Probing.{cycle_candidates}
use Rattle.lg_detector.specs.Meaning.Room.{somebody_is_gone, IsFirstGone}
use Rattle.lg_detector.specs.Meaning.Timing.{pending}
use Rattle.lg_detector.specs.Meaning.Step.{reply_after, view_after}
use Rattle.lg_detector.specs.Meaning.Examples.{by_computing, b, c, d, at, alive, failed, on, says_in, nothing}
use Rattle.lg_detector.specs.Meaning.Examples.{log_after, start_of_round, ticks, timer_of}

-- b is opened with these times and seeds. It gossips no news.
abbrev seed : ℕ → Seed
seed letter = record { name = letter ∷ []; addr = at 7000 }

abbrev opening_for : ℕ → ℕ → ℕ → List Seed → Event
opening_for forget interval timeout seeds =
    Open 0
    (record (defaults (b ∷ []) (at 7000)) {
      wire = 3;
      gossip_ms = 0;
      forget_ms = forget;
      interval_ms = interval;
      timeout_ms = timeout;
      seeds = record { items = seeds };
    })

abbrev opening : List Seed → Event
opening seeds = opening_for 1000 1000 500 seeds

abbrev left : ℕ → ℕ → Claim
left letter i = on letter Left i

-- it hears claims, which nothing answers
abbrev hears : ℕ → List Claim → Event
hears now claims = says_in Three now Gossip claims

abbrev forgets : ℕ → ℕ → Timer
forgets deadline letter = timer_of deadline (Forget (letter ∷ []))

-- WHEN THE TIMER IS SET
-- c leaves at 10, and is to be forgotten 1,000 ms later.
abbrev of_c : List Event → List Event
of_c events = opening (seed c ∷ []) ∷ events

it_is_set : pending (log_after (of_c (hears 10 (left c 0 ∷ []) ∷ []))) ≡ start_of_round 0 ∷ forgets 1010 c ∷ []
unfolding by_computing
it_is_set = refl

-- The same claim again does nothing. Left over Failed sets the timer anew, and so does a greater number.
it_stays :
    pending (log_after (of_c (hears 10 (failed c 0 ∷ []) ∷ hears 50 (failed c 0 ∷ []) ∷ [])))
    ≡ start_of_round 0 ∷ forgets 1010 c ∷ []
unfolding by_computing
it_stays = refl

it_is_set_anew :
    pending (log_after (of_c (hears 10 (failed c 0 ∷ []) ∷ hears 300 (left c 0 ∷ []) ∷ [])))
    ≡ start_of_round 0 ∷ forgets 1300 c ∷ []
unfolding by_computing
it_is_set_anew = refl

a_greater_number :
    pending (log_after (of_c (hears 10 (failed c 0 ∷ []) ∷ hears 50 (failed c 1 ∷ []) ∷ [])))
    ≡ start_of_round 0 ∷ forgets 1050 c ∷ []
unfolding by_computing
a_greater_number = refl

-- It is cancelled where c comes back.
it_is_cancelled :
    pending (log_after (of_c (hears 10 (failed c 0 ∷ []) ∷ hears 20 (alive c 1 ∷ []) ∷ []))) ≡ start_of_round 0 ∷ []
unfolding by_computing
it_is_cancelled = refl

-- None is set by a member that forgets nobody, nor for a claim about b itself.
it_forgets_nobody :
    pending (log_after (opening_for 0 1000 500 (seed c ∷ []) ∷ hears 10 (left c 0 ∷ []) ∷ [])) ≡ start_of_round 0 ∷ []
unfolding by_computing
it_forgets_nobody = refl

never_itself : pending (log_after (of_c (hears 10 (left b 0 ∷ []) ∷ []))) ≡ start_of_round 0 ∷ []
unfolding by_computing
never_itself = refl

-- WHAT IT DOES
-- A start of a round is before it, and of two that forget the lesser name is first.
abbrev of_two : List Event
of_two = opening (seed c ∷ seed d ∷ []) ∷ hears 10 (left d 0 ∷ left c 0 ∷ []) ∷ ticks 10 ∷ []

start_is_first : reply_after of_two (ticks 1010) ≡ record (nothing 1010) { fired = Some (start_of_round 1010) }
unfolding by_computing
start_is_first = refl

abbrev forgetting : ℕ → ℕ → ℕ → Reply
forgetting deadline letter next =
    record (nothing next) {
      fired = Some (forgets deadline letter);
      forgotten = record { items = (letter ∷ []) ∷ [] };
    }

abbrev then_started : List Event
then_started = opening (seed c ∷ seed d ∷ []) ∷ hears 10 (left d 0 ∷ left c 0 ∷ []) ∷ ticks 10 ∷ ticks 1010 ∷ []

c_is_forgotten : reply_after then_started (ticks 1010) ≡ forgetting 1010 c 1010
unfolding by_computing
c_is_forgotten = refl

-- From then on it is unknown. That it left is ignored, and a claim that it is alive makes a record.
abbrev without_c : List Event
without_c = of_c (hears 10 (left c 0 ∷ []) ∷ ticks 10 ∷ ticks 1010 ∷ ticks 1010 ∷ [])

abbrev without_c_then : Event → List Event
without_c_then event = of_c (hears 10 (left c 0 ∷ []) ∷ ticks 10 ∷ ticks 1010 ∷ ticks 1010 ∷ event ∷ [])

it_is_unknown : view_after without_c ≡ alive b 0 ∷ []
unfolding by_computing
it_is_unknown = refl

it_is_ignored : reply_after without_c (hears 1020 (left c 0 ∷ [])) ≡ nothing 2010
unfolding by_computing
it_is_ignored = refl

it_is_known_again :
    reply_after without_c (hears 1020 (alive c 0 ∷ []))
    ≡ record (nothing 2010) { changed = record { items = alive c 0 ∷ [] } }
unfolding by_computing
it_is_known_again = refl

known_again : view_after (without_c_then (hears 1020 (alive c 0 ∷ []))) ≡ alive b 0 ∷ alive c 0 ∷ []
unfolding by_computing
known_again = refl

-- WHO MAKES ROOM
-- The one with the earlier deadline is the first to be forgotten, although its name is the greater.
abbrev d_and_then_c : Log
d_and_then_c =
    log_after (opening (seed c ∷ seed d ∷ []) ∷ hears 10 (left d 0 ∷ []) ∷ hears 20 (failed c 0 ∷ []) ∷ [])

abbrev gone_at : ℕ → ℕ → Gone
gone_at letter deadline = record { name = letter ∷ []; deadline = deadline }

two_are_gone : gone (group_log d_and_then_c) ≡ gone_at c 1020 ∷ gone_at d 1010 ∷ []
unfolding by_computing
two_are_gone = refl

d_is_first : IsFirstGone (group_log d_and_then_c) (gone_at d 1010)
unfolding by_computing
d_is_first = record { among = (1, lit< tt, refl); first = refl }

its_timer_is_the_first : first_forget (pending d_and_then_c) ≡ Some (forgets 1010 d)
unfolding by_computing
its_timer_is_the_first = refl

-- Of two with one deadline it is the one with the lesser name.
c_is_first : IsFirstGone (group_log (log_after of_two)) (gone_at c 1010)
unfolding by_computing
c_is_first = record { among = (0, lit< tt, refl); first = refl }

-- Who is alive isn't gone.
nobody_is_gone : somebody_is_gone (group_log (log_after (of_c []))) ≡ false
unfolding by_computing
nobody_is_gone = refl

-- WHO IS PROBED
-- b probes c, which leaves and is forgotten: helpers aren't asked at 2000, and nobody is accused at 3000. The score is
-- marked as ever.
abbrev slow : List Event → List Event
slow events = opening_for 1000 3000 2000 (seed c ∷ []) ∷ ticks 0 ∷ hears 20 (left c 0 ∷ []) ∷ ticks 1020 ∷ events

the_target_is_forgotten :
    reply_after (opening_for 1000 3000 2000 (seed c ∷ []) ∷ ticks 0 ∷ hears 20 (left c 0 ∷ []) ∷ []) (ticks 1020)
    ≡ forgetting 1020 c 2000
unfolding by_computing
the_target_is_forgotten = refl

nobody_is_asked : reply_after (slow []) (ticks 2000) ≡ record (nothing 3000) { fired = Some (timer_of 2000 Direct) }
unfolding by_computing
nobody_is_asked = refl

nobody_is_accused :
    reply_after (slow (ticks 2000 ∷ [])) (ticks 3000) ≡ record (nothing 3000) { fired = Some (timer_of 3000 RoundEnd) }
unfolding by_computing
nobody_is_accused = refl

the_score_is_marked : (reply_after (slow (ticks 2000 ∷ ticks 3000 ∷ [])) (Health 3000)).answer ≡ Some (OfHealth 1 0 1)
unfolding by_computing
the_score_is_marked = refl

-- A member that was chosen, forgotten and made anew in one cycle is a candidate again.
abbrev chosen_anew : List Event
chosen_anew =
    opening (seed c ∷ seed d ∷ [])
    ∷ ticks 0
    ∷ hears 20 (left c 0 ∷ [])
    ∷ ticks 1000
    ∷ ticks 1000
    ∷ ticks 1000
    ∷ ticks 1020
    ∷ hears 1040 (alive c 0 ∷ [])
    ∷ []

it_is_a_candidate : cycle_candidates (log_after chosen_anew) ≡ (c ∷ []) ∷ []
unfolding by_computing
it_is_a_candidate = refl
