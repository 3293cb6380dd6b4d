-- Worked rows of the changes that a site keeps. b is opened at 0; the others are a, c and d.
use Rattle.std.specs.Prelude.{⊤, ◌≡◌, List, [], ◌∷◌, ◌++◌, Some, refl}
use Rattle.lg_changes.specs.declared.change.Change.{Change}
use Rattle.lg_changes.specs.Meaning.Changes.{recorded_at, changes_after, last_version}
use Rattle.lg_detector.specs.declared.event.Event.{Event}
use Rattle.lg_detector.specs.declared.event.Event.TheVariants.{Ask}
use Rattle.lg_detector.specs.Meaning.Examples.{by_computing, b, c, d, alive, opening, pings, suspect}
use Rattle.lg_view.specs.Meaning.Changes.{changed_at, changes_at, changes_behind, changes_of, forgotten_in}

-- what the rows have to unfold
unfoldable by_showing : ⊤
unfolding by_computing changed_at forgotten_in changes_after changes_at changes_behind
by_showing = tt

-- What a first look shows: the events up to a Ping by which c is known.
abbrev first : List Event
first = opening 0 ∷ pings 5 1 b (alive c 0 ∷ []) ∷ []

abbrev first_changes : List Change
first_changes = recorded_at 1 0 (alive b 0) ∷ recorded_at 2 5 (alive c 0) ∷ []

-- What a later look shows: c was suspected and refuted it 10 ms later, both behind the first look.
abbrev later : List Event
later =
    opening 0 ∷ pings 5 1 b (alive c 0 ∷ []) ∷ pings 400 2 b (suspect c 0 d ∷ []) ∷ pings 410 3 b (alive c 1 ∷ []) ∷ []

-- both, in order, each with the version and the moment of its own event
abbrev soon : List Change
soon = recorded_at 3 400 (suspect c 0 d) ∷ recorded_at 4 410 (alive c 1) ∷ []

changes_of_the_first_look : changes_of first ≡ first_changes
unfolding by_showing
changes_of_the_first_look = refl

-- Those of the later look begin with them.
changes_of_the_later_look : changes_of later ≡ first_changes ++ soon
unfolding by_showing
changes_of_the_later_look = refl

-- Whoever has seen version 2 gets what came behind it.
both_behind_the_first_look : changes_after 2 (changes_of later) ≡ Some soon
unfolding by_showing
both_behind_the_first_look = refl

one_behind_the_suspicion : changes_after 3 (changes_of later) ≡ Some (recorded_at 4 410 (alive c 1) ∷ [])
unfolding by_showing
one_behind_the_suspicion = refl

the_newest : last_version (changes_of later) ≡ 4
unfolding by_showing
the_newest = refl

-- A question changes no record, so the newest change stays the one before it.
the_newest_before_a_question : last_version (changes_of (first ++ Ask 20 (c ∷ []) ∷ [])) ≡ 2
unfolding by_showing
the_newest_before_a_question = refl
