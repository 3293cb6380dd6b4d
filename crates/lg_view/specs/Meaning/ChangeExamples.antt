-- Worked changes: b, which has the seed c, hears that c is suspected by d, and hears c refute it. Or it hears that c
-- left, and forgets it.
use Rattle.std.specs.Prelude.{⊤, ◌≡◌, true, false, List, [], ◌∷◌, ◌++◌, refl}
use Rattle.lg_changes.specs.Meaning.Changes.{recorded_at, forgotten_at}
use Rattle.lg_rules.specs.declared.claim.Status.TheVariants.{Left}
use Rattle.lg_rules.specs.declared.version.Version.TheVariants.{Three}
use Rattle.lg_timing.specs.Meaning.Config.{defaults}
use Rattle.lg_packet.specs.declared.packet.Body.TheVariants.{Gossip}
use Rattle.lg_detector.specs.declared.event.Event.{Event}
use Rattle.lg_detector.specs.declared.event.Event.TheVariants.{Ask, Open}
use Rattle.lg_detector.specs.Meaning.Examples.{b, c, d, at, alive, on, suspect}
use Rattle.lg_detector.specs.Meaning.Examples.{by_computing, pings, says_in, seeded, ticks}
use Rattle.lg_view.specs.Meaning.Changes.{changed_at, forgotten_in, changes_at, changes_behind, changes_of}
use Rattle.lg_view.specs.Meaning.Changes.{is_unknown_after}

-- what the rows have to unfold
unfoldable by_changing : ⊤
unfolding by_computing changed_at forgotten_in changes_at changes_behind
by_changing = tt

-- The opening makes two records. The suspicion and its refutation 10 ms later are two changes. A question changes none.
abbrev refuted_soon : List Event
refuted_soon =
    seeded ∷ pings 400 1 b (suspect c 0 d ∷ []) ∷ Ask 405 (c ∷ []) ∷ pings 410 2 b (alive c 1 ∷ []) ∷ []

each_is_a_change : changes_of refuted_soon
    ≡ recorded_at 1 0 (alive b 0) ∷ recorded_at 1 0 (alive c 0) ∷ recorded_at 2 400 (suspect c 0 d)
    ∷ recorded_at 4 410 (alive c 1) ∷ []
unfolding by_changing
each_is_a_change = refl

-- What comes at an earlier moment changes at the greatest one.
late : changes_of (seeded ∷ Ask 405 (c ∷ []) ∷ pings 400 1 b (suspect c 0 d ∷ []) ∷ [])
    ≡ recorded_at 1 0 (alive b 0) ∷ recorded_at 1 0 (alive c 0) ∷ recorded_at 3 405 (suspect c 0 d) ∷ []
unfolding by_changing
late = refl

-- b forgets who is gone after one second. c leaves at 10, and the second tick at 1010 forgets it: the first starts a
-- round.
abbrev opening : Event
opening =
    Open 0
    (record (defaults (b ∷ []) (at 7000)) {
      wire = 3;
      gossip_ms = 0;
      forget_ms = 1000;
      seeds = record { items = record { name = c ∷ []; addr = at 7000 } ∷ [] };
    })

abbrev forgotten_later : List Event
forgotten_later =
    opening ∷ says_in Three 10 Gossip (on c Left 0 ∷ []) ∷ ticks 10 ∷ ticks 1010 ∷ ticks 1010 ∷ []

it_is_forgotten : changes_of forgotten_later
    ≡ recorded_at 1 0 (alive b 0) ∷ recorded_at 1 0 (alive c 0) ∷ recorded_at 2 10 (on c Left 0)
    ∷ forgotten_at 5 1010 (c ∷ []) ∷ []
unfolding by_changing
it_is_forgotten = refl

-- Once it is forgotten it is unknown. A name that is known again once an event is over is no change of this event.
it_is_unknown : is_unknown_after forgotten_later (c ∷ []) ≡ true
unfolding by_changing
it_is_unknown = refl

known_again : is_unknown_after (forgotten_later ++ says_in Three 1020 Gossip (alive c 0 ∷ []) ∷ []) (c ∷ []) ≡ false
unfolding by_changing
known_again = refl
