-- The steps of the loops that look for a fault of closing.
use Rattle.std.proofs.Common.{◌≡◌, ◌≢◌, ℕ, ◌+◌, ◌-◌, ◌<◌, ◌≤◌, ◌==◌, Bool, true, false, List, [], length, drop, get_or, refl, ap, sym, ◌∙◌}
use Rattle.std.specs.Prelude.{Option, Some, None, is_some}
use Rattle.std.specs.List.{list_any, find, range_with_len}
use Rattle.std.specs.Option.{option_or}
use Rattle.std.proofs.lemmas.Bool.{eq-eqb, ne_eqb}
use Rattle.std.proofs.lemmas.List.{drop_more}
use Rattle.std.proofs.Math.ListN.{drop_of_length-le}
use Rattle.lg_history.specs.Meaning.History.{Entry, positions}
use Rattle.lg_agent.specs.declared.refusal.CloseFault.{CloseFault}
use Rattle.lg_agent.specs.Meaning.Values.{KeptValue, PassValue}
use Rattle.lg_agent.specs.Meaning.Closing.{times, is_missing, first_difference, difference_at, least_difference}
use Rattle.lg_agent.proofs.ClosingLaws.{places_more}

abbrev pub lacks_from : List PassValue → ℕ → ℕ → Bool
lacks_from all places i = list_any (is_missing all) (range_with_len (i + 1) (places - i))

pub missing_here : (all : List PassValue) (places i : ℕ) (b : Bool) → i < places → b ≡ lacks_from all places i → times all (i + 1) ≡ 0 → true ≡ b
missing_here all places i b low is none =
    let here : is_missing all (i + 1) ≡ true = eq-eqb (times all (i + 1)) 0 none in
    sym (is ∙ (ap (list_any (is_missing all)) (places_more places i low) ∙ rw here refl))

pub missing_more : (all : List PassValue) (places i : ℕ) (b : Bool) → i < places → b ≡ lacks_from all places i → times all (i + 1) ≢ 0 → b ≡ lacks_from all places (i + 1)
missing_more all places i b low is some =
    let here : is_missing all (i + 1) ≡ false = ne_eqb (times all (i + 1)) 0 some in
    is ∙ (ap (list_any (is_missing all)) (places_more places i low) ∙ rw here refl)

or_some : (a b : Option CloseFault) → is_some a ≡ true → a ≡ option_or a b
or_some None b e = absurd cc
or_some (Some x) b e = refl

or_none : (a b : Option CloseFault) → is_some a ≡ false → option_or a b ≡ b
or_none None b e = refl
or_none (Some x) b e = absurd cc

abbrev pub least_from : KeptValue → List PassValue → ℕ → ℕ → Option CloseFault
least_from h all places i = least_difference h all (range_with_len (i + 1) (places - i))

pub least_here : (h : KeptValue) (all : List PassValue) (places i : ℕ) (whole fault : Option CloseFault) → i < places → whole ≡ least_from h all places i → fault ≡ difference_at h (find (λ s. s.seat == (i + 1)) all) → is_some fault ≡ true → fault ≡ whole
least_here h all places i whole fault low is found some =
    let rest : Option CloseFault = least_from h all places (i + 1) in
    or_some fault rest some ∙ (ap (λ (o : Option CloseFault). option_or o rest) found ∙ sym (is ∙ ap (least_difference h all) (places_more places i low)))

pub least_more : (h : KeptValue) (all : List PassValue) (places i : ℕ) (whole fault : Option CloseFault) → i < places → whole ≡ least_from h all places i → fault ≡ difference_at h (find (λ s. s.seat == (i + 1)) all) → is_some fault ≡ false → whole ≡ least_from h all places (i + 1)
least_more h all places i whole fault low is found none =
    let rest : Option CloseFault = least_from h all places (i + 1) in
    is ∙ (ap (least_difference h all) (places_more places i low) ∙ (ap (λ (o : Option CloseFault). option_or o rest) (sym found) ∙ or_none fault rest none))

pub find_here : (all : List PassValue) (i p : ℕ) (d : PassValue) (whole : Option PassValue) → i < length all → whole ≡ find (λ s. s.seat == p) (drop i all) → (get_or all i d).seat ≡ p → whole ≡ Some (get_or all i d)
find_here all i p d whole low is same = is ∙ (ap (find (λ (s : PassValue). s.seat == p)) (drop_more all i d low) ∙ rw (eq-eqb (get_or all i d).seat p same) refl)

pub find_more : (all : List PassValue) (i p : ℕ) (d : PassValue) (whole : Option PassValue) → i < length all → whole ≡ find (λ s. s.seat == p) (drop i all) → (get_or all i d).seat ≢ p → whole ≡ find (λ s. s.seat == p) (drop (i + 1) all)
find_more all i p d whole low is other = is ∙ (ap (find (λ (s : PassValue). s.seat == p)) (drop_more all i d low) ∙ rw (ne_eqb (get_or all i d).seat p other) refl)

-- all entries were gone through, and a pass has more positions
pub ends_later : (mine : List ℕ) (h : List Entry) (seat base gone f i : ℕ) (whole : Option ℕ) → whole ≡ first_difference (gone + f) (drop f mine) (positions seat (base + i) (drop i h)) → length h ≤ i → f < length mine → Some (gone + f) ≡ whole
ends_later mine h seat base gone f i whole is all low =
    let none : drop i h ≡ [] = drop_of_length-le h all in
    sym (is ∙ rw (none, drop_more mine f 0 low) refl)
