-- Worked histories of b, which is opened at 0 with the default numbers.
use Rattle.std.specs.Prelude.{◌≡◌, true, List, [], ◌∷◌, Some, None, refl}
use Rattle.lg_detector.specs.declared.event.Event.{Event}
use Rattle.lg_detector.specs.declared.event.Event.TheVariants.{Health}
use Rattle.lg_detector.specs.declared.reply.Reply.{Reply}
use Rattle.lg_detector.specs.Meaning.Step.{is_accepted}
use Rattle.lg_detector.specs.Meaning.Examples.{by_computing, b, c, opening, pings, alive, nothing, acks}
use Rattle.lg_history.specs.Meaning.History.{Entry, entry, events, Answered, Seated, completed, positions}

-- A Ping for b, heard by the first pass, which claims that c is alive; and its Ack.
abbrev ping : Event
ping = pings 10 8 b (alive c 0 ∷ [])

abbrev ack : Reply
ack =
    record (nothing 0) {
      sends = record { items = acks 8 (alive c 0 ∷ []) };
      changed = record { items = alive c 0 ∷ [] };
    }

abbrev two : List Entry
two = entry 0 (opening 0) (nothing 0) ∷ entry 1 ping ack ∷ []

-- each reply is that of the definitions
they_are_answered : Answered [] two
unfolding by_computing
they_are_answered = (refl, (refl, tt))

they_are_accepted : is_accepted (events two) ≡ true
unfolding by_computing
they_are_accepted = refl

no_history_is_without_an_opening : Seated 2 [] ≡ ⊥
no_history_is_without_an_opening = refl

-- A question of the second pass is prepared and then completed. Without anything prepared, nothing is added.
abbrev asked : Event
asked = Health 20

it_is_added_behind_the_others :
    completed (nothing 0) (record { entries = two; prepared = Some (record { seat = 2; event = asked }) })
    ≡ record {
      entries = entry 0 (opening 0) (nothing 0) ∷ entry 1 ping ack ∷ entry 2 asked (nothing 0) ∷ [];
      prepared = None;
    }
it_is_added_behind_the_others = refl

nothing_is_added :
    completed (nothing 0) (record { entries = two; prepared = None }) ≡ record { entries = two; prepared = None }
nothing_is_added = refl

-- Of the three entries after that of the opening, the first and the last are of the first pass.
abbrev mixed : List Entry
mixed =
    entry 0 (opening 0) (nothing 0) ∷ entry 1 ping ack
    ∷ entry 2 asked (nothing 0) ∷ entry 1 asked (nothing 0) ∷ []

those_of_the_first_pass : positions 1 0 mixed ≡ 1 ∷ 3 ∷ []
those_of_the_first_pass = refl

those_of_the_opening : positions 0 0 mixed ≡ 0 ∷ []
those_of_the_opening = refl

those_of_no_pass : positions 3 0 mixed ≡ []
those_of_no_pass = refl
