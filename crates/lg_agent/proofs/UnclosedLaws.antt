-- What a refused closing says, whatever the history is.
use Rattle.std.proofs.Common.{◌≡◌, ℕ, zero, suc, ◌+◌, ◌<◌, ◌≤◌, ◌==◌, Bool, true, false, ◌||◌, if◌then◌else◌, List, [], ◌∷◌, get_or, refl, ap, sym, subst, ◌∙◌, arith, inl, inr, ◌⊎◌, ⊎_elim, Any}
use Rattle.std.specs.Prelude.{Option, Some, None, option_map}
use Rattle.std.specs.List.{list_any, find, range_with_len}
use Rattle.std.specs.Option.{option_or}
use Rattle.std.proofs.lemmas.Bool.{eqb-true}
use Rattle.std.proofs.lemmas.Bool.Decides.{nat_tests}
use Rattle.std.proofs.lemmas.List.Folds.{list_any_at}
use Rattle.lg_agent.specs.declared.refusal.CloseFault.{CloseFault}
use Rattle.lg_agent.specs.declared.refusal.CloseFault.TheVariants.{Missing, Foreign, Differs}
use Rattle.lg_agent.specs.Meaning.Values.{KeptValue, PassValue, own_name, all_events}
use Rattle.lg_agent.specs.Meaning.Closing.{times, is_foreign, is_missing, difference_at, least_difference, close_fault, IsRefusedClosing, LacksOne, IsMisplaced}

-- a fault that only Differs is isn't Missing
differs_only : (seat : ℕ) (o : Option ℕ) → option_map (λ (i : ℕ). Differs seat i) o ≡ Some Missing → ⊥
differs_only seat None e = absurd cc
differs_only seat (Some i) e = absurd cc

-- nor is the fault of a pass's calls
calls_differ : (seat calls cut lesser : ℕ) (o : Option ℕ) → (if calls == cut then option_map (λ (i : ℕ). Differs seat i) o else Some (Differs seat lesser)) ≡ Some Missing → ⊥
calls_differ seat calls cut lesser o e = elim (calls == cut) as (λ (b : Bool). (if b then option_map (λ (i : ℕ). Differs seat i) o else Some (Differs seat lesser)) ≡ Some Missing → ⊥) [
  | true ↦ λ is. differs_only seat o is
  | false ↦ λ is. absurd cc
] e

at_differs : (l : KeptValue) (o : Option PassValue) → difference_at l o ≡ Some Missing → ⊥
at_differs l None e = absurd cc
at_differs l (Some s) e = calls_differ _ _ _ _ _ e

one_of_two : (a b : Option CloseFault) → option_or a b ≡ Some Missing → (a ≡ Some Missing) ⊎ (b ≡ Some Missing)
one_of_two None b e = inr e
one_of_two (Some x) b e = inl e

least_differs : (h : KeptValue) (all : List PassValue) (ps : List ℕ) → least_difference h all ps ≡ Some Missing → ⊥
least_differs h all [] e = absurd cc
least_differs h all (p ∷ ps) e = ⊎_elim (at_differs h (find (λ (s : PassValue). s.seat == p) all)) (least_differs h all ps) (one_of_two _ _ e)

-- what a test finds among places holds of one of them
one_in_range : (P : ℕ → Bool) (a n : ℕ) → list_any P (range_with_len a n) ≡ true → (p : ℕ) × (a ≤ p) × (p < a + n) × (P p ≡ true)
one_in_range P a zero e = absurd cc
one_in_range P a (suc n) e = elim (P a) as (λ (b : Bool). P a ≡ b → (b || list_any P (range_with_len (a + 1) n)) ≡ true → (p : ℕ) × (a ≤ p) × (p < a + suc n) × (P p ≡ true)) [
  | true ↦ λ is rest. (a, omega arith, omega arith, is)
  | false ↦ λ isnt rest. let later = one_in_range P (a + 1) n rest in (later.0, omega (arith, later.1), omega (arith, later.2), later.3)
] refl e

missing_of : (a b : Bool) (d : Option CloseFault) → (d ≡ Some Missing → ⊥) → (if a then Some Foreign else (if b then Some Missing else d)) ≡ Some Missing → b ≡ true
missing_of true b d never e = absurd cc
missing_of false true d never e = refl
missing_of false false d never e = absurd (never e)

lacks_by : (h : KeptValue) (all : List PassValue) → close_fault h all ≡ Some Missing → LacksOne h.places all
lacks_by h all e =
    let some : list_any (is_missing all) (range_with_len 1 h.places) ≡ true = missing_of _ _ _ (least_differs h all (range_with_len 1 h.places)) e in
    let one = one_in_range (is_missing all) 1 h.places some in
    (one.0, omega (arith, one.1), omega (arith, one.2), eqb-true (times all one.0) 0 one.3)

-- Missing comes only where a place has none
pub missing_lacks : (places : ℕ) (all : List PassValue) (fault : CloseFault) → IsRefusedClosing places all fault → fault ≡ Missing → LacksOne places all
missing_lacks places all fault refused is = ⊎_elim
    (λ found. subst (λ (n : ℕ). LacksOne n all) refused.legal.places_are (lacks_by refused.ledger all (found ∙ ap (λ (f : CloseFault). Some f) is)))
    (λ none. absurd (let differs = none.1.4.behind in cc))
    refused.found

-- one that is misplaced is foreign, whatever its name
misplaced_is_foreign : (name : List ℕ) (places : ℕ) (all : List PassValue) (s : PassValue) → IsMisplaced places all s → is_foreign name places all s ≡ true
misplaced_is_foreign name places all s (inl zeroth) = grind (arith, nat_tests, zeroth)
misplaced_is_foreign name places all s (inr (inl above)) = grind (arith, nat_tests, above)
misplaced_is_foreign name places all s (inr (inr twice)) = grind (arith, nat_tests, twice)

foreign_by : (h : KeptValue) (all : List PassValue) → Any (IsMisplaced h.places all) all → close_fault h all ≡ Some Foreign
foreign_by h all some =
    let P : PassValue → Bool = is_foreign (own_name (all_events h)) h.places all in
    let here : P (get_or all some.0 some.1) ≡ true = ap P some.3 ∙ misplaced_is_foreign (own_name (all_events h)) h.places all some.1 some.4 in
    let any : list_any P all ≡ true = list_any_at P all some.0 some.1 some.2 here in
    rw any refl

-- one that is misplaced makes the fault Foreign
pub misplaced_foreign : (places : ℕ) (all : List PassValue) (fault : CloseFault) → IsRefusedClosing places all fault → Any (IsMisplaced places all) all → fault ≡ Foreign
misplaced_foreign places all fault refused some =
    let is : close_fault refused.ledger all ≡ Some Foreign = foreign_by refused.ledger all (subst (λ (n : ℕ). Any (IsMisplaced n all) all) (sym refused.legal.places_are) some) in
    ⊎_elim (λ found. cc (found, is)) (λ none. absurd (let no = none.0 in cc (no, is))) refused.found

-- and then no closing goes well
pub misplaced_unclosed : (h : KeptValue) (all : List PassValue) → close_fault h all ≡ None → Any (IsMisplaced h.places all) all → ⊥
misplaced_unclosed h all none some = let is = foreign_by h all some in absurd (cc (none, is))
