-- Worked refusals, rotations and faults of closing. b is opened at 0. The first pass made a call, then the second, then
-- the first.
use Rattle.std.specs.Prelude.{◌≡◌, ◌≤◌, ◌+◌, ℕ, zero, suc, Bool, cond, if◌then◌else◌, refl}
use Rattle.std.specs.Prelude.{List, [], ◌∷◌, length, Some, None}
use Rattle.std.proofs.Common.{inl, inr, ap, sym, arith}
use Rattle.std.proofs.lemmas.Bool.{le-leb, ne_eqb}
use Rattle.std.proofs.Math.Nat.{zero-lt-suc, lt-suc_self, le_refl}
use Rattle.std.proofs.lemmas.List.Elements.{All-nil}
use Rattle.lg_detector.specs.declared.event.Event.TheVariants.{Health}
use Rattle.lg_detector.specs.declared.event.Event.{Event}
use Rattle.lg_detector.specs.Meaning.Step.{most_events}
use Rattle.lg_detector.specs.Meaning.Examples.{by_computing, b, c, opening, nothing}
use Rattle.lg_history.specs.Meaning.History.{Entry, entry, events, positions, IsSeat, IsLegal}
use Rattle.lg_detector.specs.Support.Step.{state_after}
use Rattle.lg_history.specs.Meaning.Rest.{of_seat, made_by}
use Rattle.lg_agent.specs.declared.refusal.Refusal.TheVariants.{HistoryFull, NoPlace}
use Rattle.lg_agent.specs.declared.refusal.CloseFault.TheVariants.{Missing, Foreign, Differs}
use Rattle.lg_agent.specs.Meaning.Values.{KeptValue, PassValue, CutOffValue, handed_out, own_name}
use Rattle.lg_agent.specs.Meaning.Calls.{refusal_of, IsCutOff}
use Rattle.lg_agent.specs.Meaning.Closing.{first_difference, close_fault, IsLegalLedger, IsRefusedClosing, LacksOne}
use Rattle.lg_agent.specs.Meaning.Closing.{IsMisplaced}

abbrev asked : ℕ → Entry
asked seat = entry seat (Health 20) (nothing 0)

abbrev history : List Entry
history = entry 0 (opening 0) (nothing 0) ∷ asked 1 ∷ asked 2 ∷ asked 1 ∷ []

it_is_the_history_of_b : own_name (events history) ≡ b ∷ []
it_is_the_history_of_b = refl

-- There are two places, and at most four entries may be stored.
abbrev ledger : KeptValue
ledger = record { places = 2; limit = 4; summary = None; cut = []; past = []; history = history }

abbrev alone : KeptValue
alone = record ledger { places = 1 }

nobody_is_at_zero : refusal_of ledger 0 ≡ Some NoPlace
nobody_is_at_zero = refl

nobody_is_at_three : refusal_of ledger 3 ≡ Some NoPlace
nobody_is_at_three = refl

it_is_full : refusal_of ledger 2 ≡ Some (HistoryFull 4)
it_is_full = refl

-- if a detector accepts no more events either, that is the refusal
no_more_events : (past : List Event) → most_events ≤ length past
    → refusal_of (record ledger { past = past }) 2 ≡ Some (HistoryFull most_events)
no_more_events past many =
    ap (λ (b : Bool). if b then Some (HistoryFull most_events) else Some (HistoryFull 4))
    (le-leb most_events (4 + length past) (omega (arith, many)))

with_room_for_one : refusal_of (record ledger { limit = 5 }) 2 ≡ None
with_room_for_one = refl

-- What the passes left.
abbrev left_by : List ℕ → ℕ → List ℕ → PassValue
left_by name seat mine = record { name = name; seat = seat; seen = []; gone = 0; mine = mine }

abbrev first : PassValue
first = left_by (b ∷ []) 1 (1 ∷ 3 ∷ [])

abbrev second : PassValue
second = left_by (b ∷ []) 2 (2 ∷ [])

they_agree_in_any_order : close_fault ledger (second ∷ first ∷ []) ≡ None
they_agree_in_any_order = refl

the_second_is_missing : close_fault ledger (first ∷ []) ≡ Some Missing
the_second_is_missing = refl

one_of_another_agent_is_foreign : close_fault alone (left_by (c ∷ []) 1 (1 ∷ 3 ∷ []) ∷ []) ≡ Some Foreign
one_of_another_agent_is_foreign = refl

a_place_that_is_not_there_is_foreign : close_fault alone (first ∷ second ∷ []) ≡ Some Foreign
a_place_that_is_not_there_is_foreign = refl

-- Nobody has the second seat either, but that fault comes later.
a_place_twice_is_foreign : close_fault ledger (first ∷ first ∷ []) ≡ Some Foreign
a_place_twice_is_foreign = refl

a_call_was_forgotten : close_fault ledger (second ∷ left_by (b ∷ []) 1 (1 ∷ []) ∷ []) ≡ Some (Differs 1 1)
a_call_was_forgotten = refl

one_was_invented : close_fault ledger (left_by (b ∷ []) 2 (2 ∷ 3 ∷ []) ∷ first ∷ []) ≡ Some (Differs 2 1)
one_was_invented = refl

of_two_the_lesser_place :
    close_fault ledger (left_by (b ∷ []) 2 [] ∷ left_by (b ∷ []) 1 (1 ∷ 2 ∷ []) ∷ [])
    ≡ Some (Differs 1 1)
of_two_the_lesser_place = refl

they_are_the_same : first_difference 0 (1 ∷ 3 ∷ []) (positions 1 0 history) ≡ None
they_are_the_same = refl

-- All four entries are cut off, and the second pass makes a call, which is the fifth.
abbrev rotated : KeptValue
rotated = record {
  places = 2;
  limit = 4;
  summary = None;
  cut = 1 ∷ 2 ∷ 1 ∷ [];
  past = events history;
  history = asked 2 ∷ [];
}

there_is_room_again : refusal_of rotated 2 ≡ None
there_is_room_again = refl

-- What a rotation of these two hands out. Of the second it is the one entry since the first rotation.
all_is_handed_out : handed_out ledger ≡ record { entries = history; before = None; base = 0 }
all_is_handed_out = refl

what_came_since_is_handed_out : handed_out rotated ≡ record { entries = asked 2 ∷ []; before = None; base = 4 }
what_came_since_is_handed_out = refl

-- A pass that kept only the number of its calls, and one that still has their positions.
abbrev counts : PassValue
counts = record (left_by (b ∷ []) 1 []) { gone = 2 }

abbrev lists : PassValue
lists = left_by (b ∷ []) 2 (2 ∷ 4 ∷ [])

they_agree_by_number_and_position : close_fault rotated (counts ∷ lists ∷ []) ≡ None
they_agree_by_number_and_position = refl

a_call_that_was_cut_off_is_missing : close_fault rotated (record counts { gone = 1 } ∷ lists ∷ []) ≡ Some (Differs 1 1)
a_call_that_was_cut_off_is_missing = refl

the_last_is_missing : close_fault rotated (counts ∷ left_by (b ∷ []) 2 (2 ∷ []) ∷ []) ≡ Some (Differs 2 1)
the_last_is_missing = refl

-- The history before any call is legal.
abbrev fresh : List Entry
fresh = entry 0 (opening 0) (nothing 0) ∷ []

it_is_legal : (places : ℕ) → IsLegal places fresh
unfolding by_computing
it_is_legal places = record { accepted = refl; seated = (refl, All-nil (IsSeat places)); answered = (refl, tt) }

nobody : (seat : ℕ) → of_seat [] seat ≡ 0
nobody seat = refl

abbrev begun : ℕ → KeptValue
begun places = record { places = places; limit = 4; summary = None; cut = []; past = []; history = fresh }

its_ledger_is_legal : (places : ℕ) → IsLegalLedger places (begun places)
its_ledger_is_legal places = record {
  places_are = refl;
  rest = record { gone = []; past_is = refl; legal = it_is_legal places; counted = nobody };
  base = refl;
}

-- What rotations of it hand out: first the entry of the opening, and then nothing, behind a summary of that one.
the_opening_is_handed_out : (places : ℕ) → IsCutOff places (handed_out (begun places))
unfolding by_computing
the_opening_is_handed_out places = record {
  past = [];
  cut = [];
  rest = record { gone = []; past_is = refl; legal = it_is_legal places; counted = nobody };
  before = refl;
  base = refl;
  accepted = refl;
  answered = (refl, tt);
  from = λ s is. absurd cc;
}

abbrev none_since : CutOffValue
none_since = record { entries = []; before = Some (state_after (opening 0 ∷ [])); base = 1 }

the_opening_alone : (seat : ℕ) → of_seat (1 ∷ []) seat ≡ made_by seat fresh
the_opening_alone zero = refl
the_opening_alone (suc seat) =
    sym (ap (λ (b : Bool). 0 + cond b 1 0) (ne_eqb 0 (suc seat) (λ same. absurd (omega (arith, same)))))

nothing_more_is_handed_out : (places : ℕ) → IsCutOff places none_since
unfolding by_computing
nothing_more_is_handed_out places = record {
  past = opening 0 ∷ [];
  cut = 1 ∷ [];
  rest = record { gone = fresh; past_is = refl; legal = it_is_legal places; counted = the_opening_alone };
  before = (refl, zero-lt-suc 0);
  base = refl;
  accepted = refl;
  answered = tt;
  from = λ s is. tt;
}

abbrev idle : PassValue
idle = left_by (b ∷ []) 1 []

one_of_two_alone_is_refused : IsRefusedClosing 2 (idle ∷ []) Missing
one_of_two_alone_is_refused = record { ledger = begun 2; legal = its_ledger_is_legal 2; found = inl refl }

nobody_has_the_second_place : LacksOne 2 (idle ∷ [])
nobody_has_the_second_place = (2, zero-lt-suc 1, le_refl 2, refl)

the_first_place_is_there_twice : IsMisplaced 2 (idle ∷ idle ∷ []) idle
the_first_place_is_there_twice = inr (inr (lt-suc_self 1))

-- A pass that made no call, and has seen one event more than there is.
abbrev ahead : PassValue
ahead = record idle { seen = opening 0 ∷ Health 20 ∷ [] }

what_it_saw_is_told_behind_its_calls : IsRefusedClosing 1 (ahead ∷ []) (Differs 1 0)
what_it_saw_is_told_behind_its_calls =
    record {
      ledger = begun 1;
      legal = its_ledger_is_legal 1;
      found = inr (refl, (0, ahead, zero-lt-suc 0, refl, record { more = lt-suc_self 1; behind = refl }));
    }
