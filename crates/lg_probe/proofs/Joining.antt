-- Names that join an order, and words that choose by it.
use Rattle.std.proofs.Common.{◌≡◌, ℕ, zero, suc, ◌≤◌, ◌<◌, true, not, ◌||◌, List, [], ◌∷◌, ◌++◌, length, drop, get_or, Option, Some, None, refl, sym, ◌∙◌, ap, subst, append_assoc, append-nil, length-append, ◌+◌, arith}
use Rattle.std.specs.Option.{option_to_list}
use Rattle.lg_rules.specs.Meaning.Rows.{in_order, name_cmp, is_same, is_among, put_key, Rises}
use Rattle.lg_rules.proofs.KeyOrder.{names_order, key_is}
use Rattle.std.proofs.lemmas.List.Sums.{length-filter, count_by-le-length}
use Rattle.lg_rules.proofs.Rises.{rises-put, rises-filter, rises-in_order, among-put, among-in_order, among-filter}
use Rattle.lg_rules.proofs.RowLaws.{length_put_row-le}
use Rattle.lg_rules.proofs.Tests.{both}
use Rattle.lg_probe.specs.Meaning.Order.{OrderValue, OrderFact, Joined, Left, Chose, Forgot, current_cycle, without, names_after, cycle_after, order_after, known_names, ever_joined, then_joined, choice_after, choices_after, picks}
use Rattle.lg_probe.proofs.NameRows.{names_few, among-append}
use Rattle.lg_probe.proofs.OrderLaws.{InEither, First, Second, in_either, first_of, second_of, candidate_is, in_current}

-- who is among some names but one that is taken out, is among more names but that one
among_less : (n : List ℕ) (xs ys : List (List ℕ)) (k : List ℕ) → (is_among name_cmp k xs ≡ true → is_among name_cmp k ys ≡ true) → is_among name_cmp k (without n xs) ≡ true → is_among name_cmp k (without n ys) ≡ true
among_less n xs ys k h a =
    let parts = both (not (is_same name_cmp k n)) (is_among name_cmp k xs) (sym (among-filter names_order (λ m. not (is_same name_cmp m n)) k xs) ∙ a) in
    among-filter names_order (λ m. not (is_same name_cmp m n)) k ys ∙ rw (parts.0, h parts.1) refl

-- who is a name, or was chosen in the cycle, has joined
pub name_joined : (past : List OrderFact) (k : List ℕ) → is_among name_cmp k (names_after past) ≡ true → is_among name_cmp k (ever_joined past) ≡ true
name_joined [] k a = a
name_joined (Joined n ∷ past) k a =
    among-put names_order k n (ever_joined past)
    ∙ elim (in_either _ _ (sym (among-put names_order k n (names_after past)) ∙ a)) [
      | First s ↦ first_of _ (is_among name_cmp k (ever_joined past)) s
      | Second b ↦ second_of (is_same name_cmp n k) _ (name_joined past k b)
    ]
name_joined (Left n ∷ past) k a = name_joined past k (both _ _ (sym (among-filter names_order _ k (names_after past)) ∙ a)).1
name_joined (Chose word ∷ past) k a = name_joined past k a
name_joined (Forgot n ∷ past) k a = among_less n (names_after past) (ever_joined past) k (name_joined past k) a

pub cycle_joined : (past : List OrderFact) (k : List ℕ) → is_among name_cmp k (cycle_after past) ≡ true → is_among name_cmp k (ever_joined past) ≡ true
cycle_joined [] k a = a
cycle_joined (Joined n ∷ past) k a = among-put names_order k n (ever_joined past) ∙ second_of (is_same name_cmp n k) _ (cycle_joined past k a)
cycle_joined (Left n ∷ past) k a = cycle_joined past k a
cycle_joined (Forgot n ∷ past) k a = among_less n (cycle_after past) (ever_joined past) k (cycle_joined past k) a
cycle_joined (Chose word ∷ past) k a = step (cycle_joined past k) (choice_after past word) (λ n e. (candidate_is names (current_cycle names cycle) word n e).named) a
  where
    names : List (List ℕ)
    names = names_after past

    cycle : List (List ℕ)
    cycle = cycle_after past

    step : (is_among name_cmp k (cycle_after past) ≡ true → is_among name_cmp k (ever_joined past) ≡ true) → (o : Option (List ℕ)) → ((n : List ℕ) → o ≡ Some n → is_among name_cmp n (names_after past) ≡ true) → is_among name_cmp k (option_to_list o ++ current_cycle (names_after past) (cycle_after past)) ≡ true → is_among name_cmp k (ever_joined past) ≡ true
    step before None is b = before (in_current (names_after past) (cycle_after past) k b)
    step before (Some n) is b = elim (in_either _ _ b) [
      | First s ↦ name_joined past k (ap (λ j. is_among name_cmp j (names_after past)) (sym (key_is names_order n k s)) ∙ is n refl)
      | Second r ↦ before (in_current (names_after past) (cycle_after past) k r)
    ]

rises-joined : (past : List OrderFact) → Rises name_cmp (ever_joined past)
rises-joined [] = tt
rises-joined (Joined n ∷ past) = rises-put names_order n (ever_joined past) (rises-joined past)
rises-joined (Left n ∷ past) = rises-joined past
rises-joined (Chose word ∷ past) = rises-joined past
rises-joined (Forgot n ∷ past) = rises-filter names_order (λ m. not (is_same name_cmp m n)) (ever_joined past) (rises-joined past)

-- so with one more there are no more known than ever joined
pub known_joined : (past : List OrderFact) (n : List ℕ) → length (put_key name_cmp n (known_names (order_after past))) ≤ length (put_key name_cmp n (ever_joined past))
known_joined past n =
    let order = order_after past in
    names_few (put_key name_cmp n (known_names order)) (put_key name_cmp n (ever_joined past)) (rises-put names_order n (known_names order) (rises-in_order names_order (order.chosen ++ order.names)))
    (λ k a. among-put names_order k n (ever_joined past) ∙ known k (in_either _ _ (sym (among-put names_order k n (known_names order)) ∙ a)))
  where
    joined : (k : List ℕ) → InEither (is_among name_cmp k (order_after past).chosen) (is_among name_cmp k (names_after past)) → is_among name_cmp k (ever_joined past) ≡ true
    joined k (First c) = cycle_joined past k (sym (among-in_order names_order k (cycle_after past)) ∙ c)
    joined k (Second b) = name_joined past k b

    known : (k : List ℕ) → InEither (is_same name_cmp n k) (is_among name_cmp k (known_names (order_after past))) → (is_same name_cmp n k || is_among name_cmp k (ever_joined past)) ≡ true
    known k (First s) = first_of _ (is_among name_cmp k (ever_joined past)) s
    known k (Second a) = second_of (is_same name_cmp n k) _ (joined k (in_either _ _ (sym (among-append k (order_after past).chosen (names_after past)) ∙ sym (among-in_order names_order k ((order_after past).chosen ++ names_after past)) ∙ a)))

pub room_joined : (past : List OrderFact) (n : List ℕ) (m : ℕ) → length (ever_joined (Joined n ∷ past)) ≤ m → length (put_key name_cmp n (known_names (order_after past))) ≤ m
room_joined past n m few = omega (arith, few, known_joined past n)

-- no more have joined than steps were
few_joined : (past : List OrderFact) → length (ever_joined past) ≤ length past
few_joined [] = omega arith
few_joined (Joined n ∷ past) = omega (arith, few_joined past, length_put_row-le names_order (λ k. k) n (ever_joined past))
few_joined (Left n ∷ past) = omega (arith, few_joined past)
few_joined (Chose word ∷ past) = omega (arith, few_joined past)
few_joined (Forgot n ∷ past) = omega (arith, few_joined past, length-filter (λ m. not (is_same name_cmp m n)) (ever_joined past), count_by-le-length (λ m. not (is_same name_cmp m n)) (ever_joined past))

pub drop-next : {A : Type 0} (xs : List A) (k : ℕ) (d : A) → k < length xs → drop k xs ≡ get_or xs k d ∷ drop (suc k) xs
drop-next [] k d l = absurd (omega arith)
drop-next (x ∷ xs) zero d l = refl
drop-next (x ∷ xs) (suc k) d l = drop-next xs k d (omega arith)

pub dropped : {A : Type 0} (xs : List A) (k : ℕ) → length xs ≤ k → drop k xs ≡ []
dropped [] zero l = refl
dropped [] (suc k) l = refl
dropped (x ∷ xs) zero l = absurd (omega arith)
dropped (x ∷ xs) (suc k) l = dropped xs k (omega arith)

-- the first of these names have joined
pub record HaveJoined (names : List (List ℕ)) (k : ℕ) (order : OrderValue) : Type 0 where
  pub past : List OrderFact
  pub is : order ≡ order_after past
  pub rest : then_joined (drop k names) past ≡ then_joined names []
  pub few : length past ≤ k

pub none_joined : (names : List (List ℕ)) (order : OrderValue) → order ≡ order_after [] → HaveJoined names 0 order
none_joined names order e = record { past = []; is = e; rest = refl; few = omega arith }

pub next_room : (names : List (List ℕ)) (k : ℕ) (order : OrderValue) (n : List ℕ) (m : ℕ) → HaveJoined names k order → k < m → length (put_key name_cmp n (known_names order)) ≤ m
next_room names k order n m have l =
    subst (λ o. length (put_key name_cmp n (known_names o)) ≤ m) (sym have.is)
    (room_joined have.past n m (omega (arith, have.few, l, few_joined have.past, length_put_row-le names_order (λ j. j) n (ever_joined have.past))))

pub next_joined : (names : List (List ℕ)) (k m : ℕ) (order after : OrderValue) (n d : List ℕ) → m ≡ suc k → k < length names → n ≡ get_or names k d → HaveJoined names k order
    → ((past : List OrderFact) → order ≡ order_after past → after ≡ order_after (Joined n ∷ past)) → HaveJoined names m after
next_joined names k m order after n d more l e have joins = record {
  past = Joined n ∷ have.past;
  is = joins have.past have.is;
  rest = ap (λ j. then_joined (drop j names) (Joined n ∷ have.past)) more ∙ ap (λ i. then_joined (drop (suc k) names) (Joined i ∷ have.past)) e ∙ ap (λ ns. then_joined ns have.past) (sym (drop-next names k d l)) ∙ have.rest;
  few = omega (arith, more, have.few);
}

pub all_joined : (names : List (List ℕ)) (k : ℕ) (order : OrderValue) → length names ≤ k → HaveJoined names k order → order ≡ order_after (then_joined names [])
all_joined names k order l have = have.is ∙ ap order_after (sym (ap (λ ns. then_joined ns have.past) (dropped names k l)) ∙ have.rest)

-- the first of these words have chosen
pub record HaveChosen (names : List (List ℕ)) (words : List ℕ) (k : ℕ) (order : OrderValue) (chosen : List (List ℕ)) : Type 0 where
  pub past : List OrderFact
  pub is : order ≡ order_after past
  pub rest : chosen ++ choices_after past (drop k words) ≡ picks names words

pub none_chosen : (names : List (List ℕ)) (words : List ℕ) (order : OrderValue) (chosen : List (List ℕ)) → order ≡ order_after (then_joined names []) → chosen ≡ [] → HaveChosen names words 0 order chosen
none_chosen names words order chosen e none = record {
  past = then_joined names [];
  is = e;
  rest = ap (λ cs. cs ++ picks names words) none;
}

pub next_chosen : (names : List (List ℕ)) (words : List ℕ) (k m : ℕ) (order after : OrderValue) (chosen more : List (List ℕ)) (word : ℕ) (named : Option (List ℕ)) → m ≡ suc k → k < length words → word ≡ get_or words k 0 → HaveChosen names words k order chosen
    → ((past : List OrderFact) → order ≡ order_after past → (named ≡ choice_after past word) × (after ≡ order_after (Chose word ∷ past))) → more ≡ chosen ++ option_to_list named → HaveChosen names words m after more
next_chosen names words k m order after chosen more word named next l e have chooses is =
    let step = chooses have.past have.is in
    let now : drop k words ≡ word ∷ drop (suc k) words = drop-next words k 0 l ∙ ap (λ w. w ∷ drop (suc k) words) (sym e) in
    let rest = choices_after (Chose word ∷ have.past) (drop (suc k) words) in
    record {
      past = Chose word ∷ have.past;
      is = step.1;
      rest = ap (λ j. more ++ choices_after (Chose word ∷ have.past) (drop j words)) next ∙ (λ i. (is ∙ ap (λ o. chosen ++ option_to_list o) step.0) i ++ rest) ∙ append_assoc chosen (option_to_list (choice_after have.past word)) rest ∙ ap (λ ws. chosen ++ choices_after have.past ws) (sym now) ∙ have.rest;
    }

pub all_chosen : (names : List (List ℕ)) (words : List ℕ) (k : ℕ) (order : OrderValue) (chosen : List (List ℕ)) → length words ≤ k → HaveChosen names words k order chosen → chosen ≡ picks names words
all_chosen names words k order chosen l have = sym (append-nil chosen) ∙ ap (λ ws. chosen ++ choices_after have.past ws) (sym (dropped words k l)) ∙ have.rest

length-in_order : (ns : List (List ℕ)) → length (in_order name_cmp ns) ≤ length ns
length-in_order [] = omega arith
length-in_order (n ∷ ns) = omega (arith, length-in_order ns, length_put_row-le names_order (λ k. k) n (in_order name_cmp ns))

-- an order has room for one more where it has few names and few chosen
pub room_by_counts : (o : OrderValue) (n : List ℕ) → length (put_key name_cmp n (known_names o)) ≤ length o.names + length o.chosen + 1
room_by_counts o n = omega (arith, length_put_row-le names_order (λ k. k) n (known_names o), length-in_order (o.chosen ++ o.names), length-append o.chosen o.names)
