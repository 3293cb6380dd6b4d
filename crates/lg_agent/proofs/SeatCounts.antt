-- How many entries each seat made, one entry after another.
use Rattle.std.proofs.Common.{◌≡◌, ◌≢◌, ℕ, ◌+◌, ◌<◌, ◌≤◌, ◌==◌, ◌&&◌, zero, suc, Bool, true, false, List, [], ◌∷◌, ◌++◌, length, slice_set, refl, sym, subst, arith}
use Rattle.std.specs.List.{list_all}
use Rattle.std.proofs.Math.ListN.{get_or-eq_default}
use Rattle.std.proofs.lemmas.Bool.{eqb-true, eq-eqb}
use Rattle.std.proofs.lemmas.List.{get_or-set_same, get_or-set_other}
use Rattle.std.proofs.lemmas.List.Sums.{count_by_more_yes, count_by_more_no}
use Rattle.lg_history.specs.Meaning.History.{Entry}
use Rattle.lg_history.specs.Meaning.Rest.{made_by, of_seat}
use Rattle.lg_history.proofs.Rests.{made_by-join}

all_both : (a b : Bool) → (a && b) ≡ true → (a ≡ true) × (b ≡ true)
all_both true b e = (refl, e)
all_both false b e = absurd cc

-- a seat makes one more entry
pub one_more : (made cut : List ℕ) (h : List Entry) (x : Entry) → x.seat < length made → ((p : ℕ) → of_seat made p ≡ of_seat cut p + made_by p h)
    → (p : ℕ) → of_seat (slice_set made x.seat (of_seat made x.seat + 1)) p ≡ of_seat cut p + made_by p (h ++ x ∷ [])
one_more made cut h x short so_far p =
    let before = so_far p in
    let joined : made_by p (h ++ x ∷ []) ≡ made_by p h + made_by p (x ∷ []) = made_by-join p h (x ∷ []) in
    elim (x.seat == p) as (λ (b : Bool). (x.seat == p) ≡ b → of_seat (slice_set made x.seat (of_seat made x.seat + 1)) p ≡ of_seat cut p + made_by p (h ++ x ∷ [])) [
      | true ↦ λ same.
          let here : x.seat ≡ p = eqb-true x.seat p same in
          let one : made_by p (x ∷ []) ≡ 1 = count_by_more_yes (λ (y : Entry). y.seat == p) (x ∷ []) 0 x (omega arith) same in
          let set : of_seat (slice_set made x.seat (of_seat made x.seat + 1)) p ≡ of_seat made p + 1 =
          subst (λ (q : ℕ). of_seat (slice_set made x.seat (of_seat made x.seat + 1)) q ≡ of_seat made q + 1) here (get_or-set_same made x.seat (of_seat made x.seat + 1) 0 short) in
          omega (arith, joined, one, before, set)
      | false ↦ λ other.
          let none : made_by p (x ∷ []) ≡ 0 = count_by_more_no (λ (y : Entry). y.seat == p) (x ∷ []) 0 x (omega arith) other in
          let apart : p ≢ x.seat = λ same. absurd (cc (other, eq-eqb x.seat p (sym same))) in
          let set : of_seat (slice_set made x.seat (of_seat made x.seat + 1)) p ≡ of_seat made p = get_or-set_other made x.seat p (of_seat made x.seat + 1) 0 apart in
          omega (arith, joined, none, before, set)
    ] refl

-- there is no number for a seat behind the last
pub beyond : (counts : List ℕ) (seat : ℕ) → length counts ≤ seat → 0 ≡ of_seat counts seat
beyond counts seat few = sym (get_or-eq_default counts 0 few)

-- of a row of zeros each seat has none
pub nobody : (counts : List ℕ) → list_all (λ n. n == 0) counts ≡ true → (seat : ℕ) → of_seat counts seat ≡ 0
nobody [] none seat = refl
nobody (n ∷ counts) none zero = eqb-true n 0 (all_both (n == 0) _ none).0
nobody (n ∷ counts) none (suc seat) = nobody counts (all_both (n == 0) _ none).1 seat

-- the row of nobody
abbrev pub none_yet : List ℕ
none_yet = 0 ∷ 0 ∷ 0 ∷ 0 ∷ 0 ∷ 0 ∷ 0 ∷ 0 ∷ 0 ∷ 0 ∷ 0 ∷ 0 ∷ 0 ∷ 0 ∷ 0 ∷ 0 ∷ 0 ∷ 0 ∷ 0 ∷ 0 ∷ 0 ∷ 0 ∷ 0 ∷ 0 ∷ 0 ∷ 0 ∷ 0 ∷ 0 ∷ 0 ∷ 0 ∷ 0 ∷ 0 ∷ 0 ∷ []
