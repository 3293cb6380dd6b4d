-- Whom the entries of a history chose, one entry after another.
use Rattle.std.proofs.Common.{◌≡◌, ℕ, zero, suc, ◌+◌, ◌<◌, ◌≤◌, min, ⊎_elim, List, [], ◌∷◌, ◌++◌, length, take, get_or, ap, sym, ◌∙◌, subst, arith, append_assoc, append-nil}
use Rattle.std.specs.Prelude.{Option, Some, None, true}
use Rattle.std.specs.Option.{option_to_list}
use Rattle.std.proofs.lemmas.Bool.{cases_lt}
use Rattle.std.proofs.lemmas.List.{take_all, take_min, take_more, get_or-map}
use Rattle.std.proofs.Math.Nat.{min-eq_left, min-eq_right}
use Rattle.std.proofs.Math.Seq.{take-append-add}
use Rattle.lg_detector.specs.declared.event.Event.{Event}
use Rattle.lg_detector.specs.Meaning.Choice.{choice_of_reply, targets_after}
use Rattle.lg_detector.specs.Meaning.Step.{is_accepted, reply_after}
use Rattle.lg_detector.specs.Support.State.{State}
use Rattle.lg_detector.proofs.Accepting.{events-after}
use Rattle.lg_detector.proofs.ChoiceLaws.{choice-gained}
use Rattle.lg_history.specs.Meaning.History.{Entry, Answered, events}
use Rattle.lg_history.specs.Meaning.Rest.{StandsFor}
use Rattle.lg_history.proofs.Legal.{length-events}
use Rattle.lg_history.proofs.Rests.{answered_from, answered_after}
use Rattle.lg_agent.specs.Meaning.Closing.{ClosedValue, IsWell}

-- What stands for one list of events stands for lists of the same length alone, and entries that are answered after one
-- of them are answered after each.
pub stands_long : (o : Option State) (f g : List Event) → StandsFor o f → StandsFor o g → length f ≡ length g
stands_long None f g one other = ap length (one ∙ sym other)
stands_long (Some s) f g one other = sym (events-after f) ∙ (ap (λ (t : State). t.events) (sym one.0 ∙ other.0) ∙ events-after g)

pub stands_answered : (o : Option State) (f g : List Event) (h : List Entry) → StandsFor o f → StandsFor o g → is_accepted (f ++ events h) ≡ true → is_accepted (g ++ events h) ≡ true → Answered f h → Answered g h
stands_answered None f g h one other all more answered = subst (λ (l : List Event). Answered l h) (one ∙ sym other) answered
stands_answered (Some s) f g h one other all more answered = answered_after s g h other.0 more (answered_from s f h one.0 all answered)

-- the reply of each entry, where those before it are answered
pub answered_at : (f : List Event) (h : List Entry) (i : ℕ) (d : Entry) → Answered f h → i < length h → (get_or h i d).reply ≡ reply_after (f ++ take i (events h)) (get_or h i d).event
answered_at f [] i d answered low = absurd (omega arith)
answered_at f (x ∷ h) zero d answered low = answered.0 ∙ ap (λ (l : List Event). reply_after l x.event) (sym (append-nil f))
answered_at f (x ∷ h) (suc i) d answered low =
    answered_at (f ++ x.event ∷ []) h i d answered.1 (omega arith) ∙ ap (λ (l : List Event). reply_after l (get_or h i d).event) (append_assoc f (x.event ∷ []) (take i (events h)))

-- whom the events before a position chose
abbrev pub chosen_before : List Event → List Entry → ℕ → List (List ℕ)
chosen_before f h i = targets_after (take i (f ++ events h))

pub chosen_more : (f : List Event) (h : List Entry) (i : ℕ) (d : Entry) (told : Option (List ℕ)) → Answered f h → i < length h → told ≡ choice_of_reply (get_or h i d).reply → chosen_before f h (length f + (i + 1)) ≡ chosen_before f h (length f + i) ++ option_to_list told
chosen_more f h i d told answered low is =
    let e : Event = (get_or h i d).event in
    let long : i < length (events h) = omega (arith, length-events h) in
    let at : get_or (events h) i e ≡ e = get_or-map (λ (x : Entry). x.event) h i d e low in
    let more : take (i + 1) (events h) ≡ take i (events h) ++ e ∷ [] = take_more (events h) i e long ∙ ap (λ (x : Event). take i (events h) ++ x ∷ []) at in
    let first : take (length f + i) (f ++ events h) ≡ f ++ take i (events h) = take-append-add f (events h) i in
    let next : take (length f + (i + 1)) (f ++ events h) ≡ (f ++ take i (events h)) ++ e ∷ [] = take-append-add f (events h) (i + 1) ∙ (ap (λ (l : List Event). f ++ l) more ∙ sym (append_assoc f (take i (events h)) (e ∷ []))) in
    ap targets_after next
    ∙ (choice-gained (get_or h i d).reply told is (f ++ take i (events h)) e (answered_at f h i d answered low)
    ∙ ap (λ (l : List Event). targets_after l ++ option_to_list told) (sym first))

-- the list of whom they chose grows with each entry
pub names_more : (c : ClosedValue) (w : IsWell c) (from place i : ℕ) (d : Entry) (told : Option (List ℕ)) (names more : List (List ℕ)) → i < length c.history → place ≡ c.base + i → told ≡ choice_of_reply (get_or c.history i d).reply
    → ((f : List Event) → StandsFor c.summary f → is_accepted (f ++ events c.history) ≡ true → chosen_before f c.history place ≡ chosen_before f c.history from ++ names)
    → more ≡ names ++ option_to_list told
    → (f : List Event) → StandsFor c.summary f → is_accepted (f ++ events c.history) ≡ true → chosen_before f c.history (place + 1) ≡ chosen_before f c.history from ++ more
names_more c w from place i d told names more low at is so_far grown f stands accepted =
    let h : List Entry = c.history in
    let long : length f ≡ c.base = stands_long c.summary f w.past stands w.summary ∙ w.base in
    let answered : Answered f h = stands_answered c.summary w.past f h w.summary stands w.accepted accepted w.answered in
    let here : place ≡ length f + i = omega (arith, at, long) in
    let next : place + 1 ≡ length f + (i + 1) = omega (arith, here) in
    ap (chosen_before f h) next
    ∙ (chosen_more f h i d told answered low is
    ∙ (ap (λ (n : ℕ). chosen_before f h n ++ option_to_list told) (sym here)
    ∙ (ap (λ (l : List (List ℕ)). l ++ option_to_list told) (so_far f stands accepted)
    ∙ (append_assoc (chosen_before f h from) names (option_to_list told) ∙ ap (λ (l : List (List ℕ)). chosen_before f h from ++ l) (sym grown)))))

-- where the loop over the positions ends, all up to `to` were gone through
pub ends_same : (xs : List Event) (a b place to : ℕ) → b ≡ min to (length xs) → b ≤ place → (a ≤ b → place ≤ b) → a ≤ place → a ≤ to → take to xs ≡ take place xs
ends_same xs a b place to is far near low le = ⊎_elim
    (λ (none : b < a). ⊎_elim
    (λ (short : length xs < to). let least : min to (length xs) ≡ length xs = min-eq_right (omega (arith, short)) in take_all to xs (omega (arith, short)) ∙ sym (take_all place xs (omega (arith, is, least, none, low))))
    (λ (long : to ≤ length xs). let least : min to (length xs) ≡ to = min-eq_left long in absurd (omega (arith, is, least, none, le)))
    (cases_lt (length xs) to))
    (λ (some : a ≤ b). let end = near some in let here : place ≡ min to (length xs) = omega (arith, is, far, end) in sym (ap (λ (n : ℕ). take n xs) here ∙ take_min to xs))
    (cases_lt b a)
