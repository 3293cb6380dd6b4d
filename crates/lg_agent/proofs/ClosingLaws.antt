-- What is known where closing finds no fault.
use Rattle.std.proofs.Common.{◌≡◌, ℕ, zero, suc, ◌+◌, ◌-◌, ◌<◌, ◌≤◌, ◌==◌, Bool, true, false, ◌||◌, not, cond, if◌then◌else◌, List, [], ◌∷◌, length, get_or, drop, refl, ap, sym, ◌∙◌, subst, arith, zero-add, All}
use Rattle.std.specs.Prelude.{Option, Some, None, option_map, nat_eq, nat_lt}
use Rattle.std.specs.List.{list_any, find, range_with_len}
use Rattle.std.specs.Option.{option_or}
use Rattle.std.specs.Cmp.Lexicographic.{pointwise}
use Rattle.std.proofs.lemmas.Bool.{eqb-true, eq-eqb}
use Rattle.std.proofs.lemmas.Bool.Decides.{nat_tests}
use Rattle.std.proofs.lemmas.List.Elements.{All-nil, All-cons, All-head, All-tail}
use Rattle.std.proofs.lemmas.List.Sums.{sum_by-cons}
use Rattle.lg_rules.proofs.KeyOrder.{names_equal}
use Rattle.lg_history.specs.Meaning.History.{positions}
use Rattle.lg_history.specs.Meaning.Rest.{of_seat}
use Rattle.lg_agent.specs.declared.refusal.CloseFault.{CloseFault}
use Rattle.lg_agent.specs.declared.refusal.CloseFault.TheVariants.{Missing, Foreign, Differs}
use Rattle.lg_agent.specs.Meaning.Values.{KeptValue, PassValue, own_name, all_events}
use Rattle.lg_agent.specs.Meaning.Closing.{times, is_foreign, is_missing, below, first_difference, difference, difference_at, least_difference, close_fault}

-- The places in order, one step on.
pub places_more : (n i : ℕ) → i < n → range_with_len (i + 1) (n - i) ≡ (i + 1) ∷ range_with_len (i + 1 + 1) (n - (i + 1))
places_more n i low = let e : n - i ≡ suc (n - (i + 1)) = omega arith in rw e refl

pub places_end : (n i : ℕ) → i ≡ n → range_with_len (i + 1) (n - i) ≡ []
places_end n i is = let e : n - i ≡ 0 = omega arith in rw e refl

or_false : (a b : Bool) → (a || b) ≡ false → (a ≡ false) × (b ≡ false)
or_false true b e = absurd cc
or_false false b e = (refl, e)

-- what some test doesn't find among places holds of none of them
pub none_in_range : (P : ℕ → Bool) (a n p : ℕ) → list_any P (range_with_len a n) ≡ false → a ≤ p → p < a + n → P p ≡ false
none_in_range P a zero p e low high = absurd (omega arith)
none_in_range P a (suc n) p e low high = elim (nat_eq p a) as (λ (b : Bool). nat_eq p a ≡ b → P p ≡ false) [
  | true ↦ λ is. ap P (eqb-true p a is) ∙ (or_false (P a) _ e).0
  | false ↦ λ isnt. none_in_range P (a + 1) n p (or_false (P a) _ e).1 (grind (arith, nat_tests)) (omega arith)
] refl

-- and among the elements of a list
pub none_in_list : {A : Type 0} (P : A → Bool) (xs : List A) → list_any P xs ≡ false → All (λ x. P x ≡ false) xs
none_in_list P [] e = All-nil (λ x. P x ≡ false)
none_in_list P (x ∷ xs) e = All-cons (λ y. P y ≡ false) x xs (or_false (P x) _ e).0 (none_in_list P xs (or_false (P x) _ e).1)

pub no_fault : (a b : Bool) (d : Option CloseFault) → (if a then Some Foreign else (if b then Some Missing else d)) ≡ None → (a ≡ false) × (b ≡ false) × (d ≡ None)
no_fault true b d e = absurd cc
no_fault false true d e = absurd cc
no_fault false false d e = (refl, refl, e)

-- A pass that belongs here.
pub record Belongs (name : List ℕ) (places : ℕ) (all : List PassValue) (s : PassValue) : Type 0 where
  pub name_is : s.name ≡ name
  pub low : 0 < s.seat
  pub high : s.seat ≤ places
  pub once : times all s.seat ≤ 1

not_false : (a : Bool) → not a ≡ false → a ≡ true
not_false true e = refl
not_false false e = absurd cc

pub belongs : (name : List ℕ) (places : ℕ) (all : List PassValue) (s : PassValue) → is_foreign name places all s ≡ false → Belongs name places all s
belongs name places all s e =
    let one = or_false (not (pointwise nat_eq s.name name)) _ e in
    let two = or_false (s.seat == 0) _ one.1 in
    let three = or_false (nat_lt places s.seat) _ two.1 in
    record {
      name_is = names_equal s.name name (not_false _ one.0);
      low = grind (arith, nat_tests, two.0);
      high = grind (arith, nat_tests, three.0);
      once = grind (arith, nat_tests, three.1);
    }

pub times-cons : (x : PassValue) (all : List PassValue) (p : ℕ) → times (x ∷ all) p ≡ cond (x.seat == p) 1 0 + times all p
times-cons x all p = sum_by-cons (λ (s : PassValue). cond (s.seat == p) 1 0) x all

pub times_yes : (x : PassValue) (all : List PassValue) (p : ℕ) → (x.seat == p) ≡ true → times (x ∷ all) p ≡ 1 + times all p
times_yes x all p is = times-cons x all p ∙ ap (λ (b : Bool). cond b 1 0 + times all p) is

pub times_no : (x : PassValue) (all : List PassValue) (p : ℕ) → (x.seat == p) ≡ false → times (x ∷ all) p ≡ times all p
times_no x all p isnt = times-cons x all p ∙ (ap (λ (b : Bool). cond b 1 0 + times all p) isnt ∙ zero-add (times all p))

-- where some pass has a place, what holds of all holds of one with that place
pub one_with : (P : PassValue → Type 0) (all : List PassValue) (p : ℕ) → All P all → 0 < times all p → (s : PassValue) × P s × (s.seat ≡ p)
one_with P [] p holds some = absurd (omega arith)
one_with P (x ∷ all) p holds some = elim (x.seat == p) as (λ (b : Bool). (x.seat == p) ≡ b → (s : PassValue) × P s × (s.seat ≡ p)) [
  | true ↦ λ is. (x, All-head P x all holds, eqb-true x.seat p is)
  | false ↦ λ isnt. one_with P all p (All-tail P x all holds) (let e = times_no x all p isnt in omega arith)
] refl

pub times-at : (all : List PassValue) (k : ℕ) (d : PassValue) → k < length all → 0 < times all (get_or all k d).seat
times-at [] k d low = absurd (omega arith)
times-at (x ∷ all) zero d low = let e = times_yes x all x.seat (eq-eqb x.seat x.seat refl) in omega arith
times-at (x ∷ all) (suc k) d low =
    let below = times-at all k d (omega arith) in
    let e = times-cons x all (get_or all k d).seat in omega arith

-- the one pass with a place is the one that is found
pub find_only : (all : List PassValue) (k : ℕ) (d : PassValue) → k < length all → times all (get_or all k d).seat ≤ 1 → find (λ s. s.seat == (get_or all k d).seat) all ≡ Some (get_or all k d)
find_only [] k d low once = absurd (omega arith)
find_only (x ∷ all) zero d low once = rw (eq-eqb x.seat x.seat refl) refl
find_only (x ∷ all) (suc k) d low once =
    let p : ℕ = (get_or all k d).seat in
    elim (x.seat == p) as (λ (b : Bool). (x.seat == p) ≡ b → cond b (Some x) (find (λ s. s.seat == p) all) ≡ Some (get_or all k d)) [
      | true ↦ λ is. absurd (let e = times_yes x all p is in let more = times-at all k d (omega arith) in omega arith)
      | false ↦ λ isnt. find_only all k d (omega arith) (let e = times_no x all p isnt in omega arith)
    ] refl

-- where no place differs, none of them does
or_none : (a b : Option CloseFault) → option_or a b ≡ None → (a ≡ None) × (b ≡ None)
or_none None b e = (refl, e)
or_none (Some x) b e = absurd cc

pub no_difference : (h : KeptValue) (all : List PassValue) (a n p : ℕ) → least_difference h all (range_with_len a n) ≡ None → a ≤ p → p < a + n → difference_at h (find (λ s. s.seat == p) all) ≡ None
no_difference h all a zero p e low high = absurd (omega arith)
no_difference h all a (suc n) p e low high = elim (nat_eq p a) as (λ (b : Bool). nat_eq p a ≡ b → difference_at h (find (λ s. s.seat == p) all) ≡ None) [
  | true ↦ λ is. ap (λ (q : ℕ). difference_at h (find (λ s. s.seat == q) all)) (eqb-true p a is) ∙ (or_none _ _ e).0
  | false ↦ λ isnt. no_difference h all (a + 1) n p (or_none _ _ e).1 (grind (arith, nat_tests)) (omega arith)
] refl

-- lists that differ nowhere are the same
pub no_first_difference : (n : ℕ) (xs ys : List ℕ) → first_difference n xs ys ≡ None → xs ≡ ys
no_first_difference n [] [] e = refl
no_first_difference n [] (y ∷ ys) e = absurd cc
no_first_difference n (x ∷ xs) [] e = absurd cc
no_first_difference n (x ∷ xs) (y ∷ ys) e = elim (x == y) as (λ (b : Bool). (x == y) ≡ b → (if b then first_difference (n + 1) xs ys else Some n) ≡ None → x ∷ xs ≡ y ∷ ys) [
  | true ↦ λ is rest. let head : x ≡ y = eqb-true x y is in let tail : xs ≡ ys = no_first_difference (n + 1) xs ys rest in rw (head, tail) refl
  | false ↦ λ isnt rest. absurd cc
] refl e

map_none : (seat : ℕ) (o : Option ℕ) → option_map (λ (i : ℕ). Differs seat i) o ≡ None → o ≡ None
map_none seat None e = refl
map_none seat (Some i) e = absurd cc

-- calls that differ nowhere: as many are cut off as entries of the place, and the other positions are those of its place
same_calls : (seat calls cut lesser : ℕ) (o : Option ℕ) → (if calls == cut then option_map (λ (i : ℕ). Differs seat i) o else Some (Differs seat lesser)) ≡ None → (calls ≡ cut) × (o ≡ None)
same_calls seat calls cut lesser o e = elim (calls == cut) as (λ (b : Bool). (calls == cut) ≡ b → (if b then option_map (λ (i : ℕ). Differs seat i) o else Some (Differs seat lesser)) ≡ None → (calls ≡ cut) × (o ≡ None)) [
  | true ↦ λ is none. (eqb-true calls cut is, map_none seat o none)
  | false ↦ λ isnt none. absurd cc
] refl e

-- What no fault says.
pub record Found (l : KeptValue) (all : List PassValue) : Type 0 where
  pub belong : All (Belongs (own_name (all_events l)) l.places all) all
  pub one_each : (p : ℕ) → 0 < p → p ≤ l.places → times all p ≡ 1
  pub cut : All (λ s. s.gone + below (length l.past) s.mine ≡ of_seat l.cut s.seat) all
  pub mine : All (λ s. drop (below (length l.past) s.mine) s.mine ≡ positions s.seat (length l.past) l.history) all

pub found : (l : KeptValue) (all : List PassValue) → close_fault l all ≡ None → Found l all
found l all e =
    let name : List ℕ = own_name (all_events l) in
    let three = no_fault _ _ _ e in
    let none = none_in_list (is_foreign name l.places all) all three.0 in
    let each : All (Belongs name l.places all) all = λ k d low. belongs name l.places all (get_or all k d) (none k d low) in
    let same : (k : ℕ) (d : PassValue) → k < length all → difference l (get_or all k d) ≡ None = λ k d low.
    let s : PassValue = get_or all k d in
    let b : Belongs name l.places all s = each k d low in
    let at : difference_at l (find (λ (o : PassValue). o.seat == s.seat) all) ≡ None = no_difference l all 1 l.places s.seat three.2 (omega (arith, b.low)) (omega (arith, b.high)) in
    sym (ap (difference_at l) (find_only all k d low b.once)) ∙ at in
    record {
      belong = each;
      one_each = λ p low high.
          let here : is_missing all p ≡ false = none_in_range (is_missing all) 1 l.places p three.1 (omega arith) (omega arith) in
          let some : 0 < times all p = grind (arith, nat_tests, here) in
          let one = one_with (Belongs name l.places all) all p each some in
          let most : times all p ≤ 1 = subst (λ (q : ℕ). times all q ≤ 1) one.2 one.1.once in
          omega (arith, some, most);
      cut = λ k d low. (same_calls _ _ _ _ _ (same k d low)).0;
      mine = λ k d low. no_first_difference _ _ _ (same_calls _ _ _ _ _ (same k d low)).1;
    }

-- within a list the default of a look-up doesn't matter
pub any_default : {A : Type 0} (xs : List A) (k : ℕ) (d e : A) → k < length xs → get_or xs k d ≡ get_or xs k e
any_default [] k d e low = absurd (omega arith)
any_default (x ∷ xs) zero d e low = refl
any_default (x ∷ xs) (suc k) d e low = any_default xs k d e (omega arith)
