-- What each step does to an order.
use Rattle.std.proofs.Common.{
  ◌≡◌,
  ℕ,
  zero,
  suc,
  ◌%◌,
  Bool,
  true,
  false,
  not,
  cond,
  ◌&&◌,
  ◌||◌,
  List,
  [],
  ◌∷◌,
  ◌++◌,
  length,
  Option,
  Some,
  None,
  refl,
  sym,
  ◌∙◌,
  ap,
}
use Rattle.std.specs.Prelude.{filter, slice_get}
use Rattle.std.specs.List.{list_all}
use Rattle.std.specs.Option.{option_to_list}
use Rattle.std.proofs.lemmas.Bool.{false≢true, not-true}
use Rattle.lg_rules.specs.Meaning.Rows.{name_cmp, is_same, is_among, in_order}
use Rattle.lg_rules.proofs.KeyOrder.{names_order}
use Rattle.lg_rules.proofs.Rises.{rises-filter, rises-in_order, among-in_order, among-filter, among-cons_same, among-later, same_members}
use Rattle.lg_rules.proofs.Tests.{both}
use Rattle.lg_probe.specs.Meaning.Order.{
  OrderFact,
  Chose,
  Forgot,
  without,
  candidate,
  candidates,
  is_over,
  current_cycle,
  choice,
  next_cycle,
  put_choice,
  names_after,
  cycle_after,
  order_after,
  order_with,
}

-- what stands somewhere in a list is among it
pub among_at : (n : List ℕ) (ns : List (List ℕ)) (k : ℕ) → slice_get ns k ≡ Some n → is_among name_cmp n ns ≡ true
among_at n [] k e = absurd cc
among_at n (m ∷ ms) zero e = among-cons_same names_order n m ms cc
among_at n (m ∷ ms) (suc k) e = among-later names_order n m ms (among_at n ms k e)

-- who is chosen is one of the names, and wasn't chosen in the cycle
pub record IsCandidate (names cycle : List (List ℕ)) (n : List ℕ) : Type 0 where
  pub named : is_among name_cmp n names ≡ true
  pub fresh : is_among name_cmp n cycle ≡ false

pub candidate_is : (names cycle : List (List ℕ)) (word : ℕ) (n : List ℕ)
    → candidate word (candidates names cycle) ≡ Some n → IsCandidate names cycle n
candidate_is names cycle word n e =
    let p : List ℕ → Bool = λ m. not (is_among name_cmp m cycle) in
    let there = among_at n (candidates names cycle) (word % length (candidates names cycle)) e in
    let parts = both (p n) (is_among name_cmp n names) (sym (among-filter names_order p n names) ∙ there) in
    record { named = parts.1; fresh = not-true _ parts.0 }

-- the current cycle by its sorted names
over-in_order : (names cycle : List (List ℕ)) → is_over names (in_order name_cmp cycle) ≡ is_over names cycle
over-in_order names cycle i = list_all (λ n. among-in_order names_order n cycle i) names

candidates-in_order : (names cycle : List (List ℕ))
    → candidates names (in_order name_cmp cycle) ≡ candidates names cycle
candidates-in_order names cycle i = filter (λ n. not (among-in_order names_order n cycle i)) names

pub current-in_order : (names cycle : List (List ℕ))
    → current_cycle names (in_order name_cmp cycle) ≡ in_order name_cmp (current_cycle names cycle)
current-in_order names cycle =
    ap (λ b. cond b [] (in_order name_cmp cycle)) (over-in_order names cycle) ∙ either (is_over names cycle)
  where
    either : (b : Bool) → cond b [] (in_order name_cmp cycle) ≡ in_order name_cmp (cond b [] cycle)
    either true = refl
    either false = refl

pub choice-in_order : (names cycle : List (List ℕ)) (word : ℕ)
    → choice names (in_order name_cmp cycle) word ≡ choice names cycle word
choice-in_order names cycle word =
    ap (λ r. candidate word (candidates names r)) (current-in_order names cycle)
    ∙ ap (candidate word) (candidates-in_order names (current_cycle names cycle))

pub put_choice-in_order : (o : Option (List ℕ)) (cycle : List (List ℕ))
    → put_choice o (in_order name_cmp cycle) ≡ in_order name_cmp (option_to_list o ++ cycle)
put_choice-in_order None cycle = refl
put_choice-in_order (Some n) cycle = refl

-- a choice after a past
pub chosen_after : (past : List OrderFact) (word : ℕ)
    → order_with (order_after past) (Chose word) ≡ order_after (Chose word ∷ past)
chosen_after past word =
    let names = names_after past in
    let cycle = cycle_after past in
    let chosen : put_choice (choice names (in_order name_cmp cycle) word)
    (current_cycle names (in_order name_cmp cycle)) ≡ in_order name_cmp (next_cycle names cycle word) =
    (λ i. put_choice (choice-in_order names cycle word i) (current-in_order names cycle i))
    ∙ put_choice-in_order (choice names cycle word) (current_cycle names cycle) in
    λ i. record { names = names; chosen = chosen i }

-- one is forgotten after a past
pub without-in_order : (n : List ℕ) (cycle : List (List ℕ))
    → without n (in_order name_cmp cycle) ≡ in_order name_cmp (without n cycle)
without-in_order n cycle =
    let p : List ℕ → Bool = λ m. not (is_same name_cmp m n) in
    same_members names_order (without n (in_order name_cmp cycle)) (in_order name_cmp (without n cycle))
    (rises-filter names_order p (in_order name_cmp cycle) (rises-in_order names_order cycle))
    (rises-in_order names_order (without n cycle))
    (λ k.
    among-filter names_order p k (in_order name_cmp cycle)
    ∙ ap (λ b. p k && b) (among-in_order names_order k cycle)
    ∙ sym (among-filter names_order p k cycle)
    ∙ sym (among-in_order names_order k (without n cycle)))

pub forgot_after : (n : List ℕ) (past : List OrderFact)
    → order_with (order_after past) (Forgot n) ≡ order_after (Forgot n ∷ past)
forgot_after n past = λ i. record { names = without n (names_after past); chosen = without-in_order n (cycle_after past) i }

pub choice_after-is : (past : List OrderFact) (word : ℕ)
    → choice (order_after past).names (order_after past).chosen word ≡ choice (names_after past) (cycle_after past) word
choice_after-is past word = choice-in_order (names_after past) (cycle_after past) word

-- one of two lists
pub data InEither (p q : Bool) : Type 0 where
  First : p ≡ true → InEither p q
  Second : q ≡ true → InEither p q

pub in_either : (p q : Bool) → (p || q) ≡ true → InEither p q
in_either true q e = First refl
in_either false q e = Second e

pub first_of : (p q : Bool) → p ≡ true → (p || q) ≡ true
first_of true q e = refl
first_of false q e = absurd (false≢true e)

pub second_of : (p q : Bool) → q ≡ true → (p || q) ≡ true
second_of true q e = refl
second_of false q e = e

-- who is among the current cycle was among the cycle
pub in_current : (names cycle : List (List ℕ)) (k : List ℕ) → is_among name_cmp k (current_cycle names cycle) ≡ true
    → is_among name_cmp k cycle ≡ true
in_current names cycle k a = step (is_over names cycle) a
  where
    step : (b : Bool) → is_among name_cmp k (cond b [] cycle) ≡ true → is_among name_cmp k cycle ≡ true
    step true a = absurd (false≢true a)
    step false a = a
