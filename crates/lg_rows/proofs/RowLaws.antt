-- A row after each call: its items, and that its places are kept.
use Rattle.std.proofs.Common.{◌≡◌, ◌≢◌, ℕ, suc, ◌<◌, ◌≤◌, eqb, List, length, get_or, set, slice_get, take, insert, remove, Some, sym, ◌∙◌, ap, arith, inl, inr}
use Rattle.std.specs.List.Sorted.{IsPermutation}
use Rattle.std.proofs.lemmas.Bool.{cases_lt, eqb-false, ne_eqb}
use Rattle.std.proofs.lemmas.Bool.Decides.{eqb_tells}
use Rattle.std.proofs.lemmas.List.{length-take-le, get_or-take, get_or-set_same, length-set}
use Rattle.std.proofs.lemmas.List.Sorted.{All-permutation, length_permutation}
use Rattle.std.proofs.lemmas.Map.Keys.{IsDistinct-IsPermutation, apart_from_distinct}
use Rattle.std.proofs.lemmas.Option.{slice_get-get_or}
use Rattle.lg_rows.specs.Meaning.Rows.{RowsValue}
use Rattle.lg_rows.specs.Support.Places.{items_at, moved, AreRowPlaces}
use Rattle.lg_rows.proofs.Moving.{permutation-moved, take-moved_down, take-moved_up}
use Rattle.lg_rows.proofs.Reading.{HaveItems, length-items_at, get_or-items_at, items_at-insert, items_at-remove, have-set, items_at-set_other, items_at-set_same}

eqb_flips : (m n : ℕ) → eqb m n ≡ eqb n m
eqb_flips m n = elim (eqb_tells m n) [
  | inl same ↦ ap (λ k. eqb k n) same.1 ∙ ap (eqb n) (sym same.1)
  | inr other ↦ other.0 ∙ sym (ne_eqb n m (λ e. other.1 (sym e)))
]

module _ {X : Type 0} {room count : ℕ} {places : List ℕ} {items : List X} (p : AreRowPlaces room count places items) where
  abbrev pub used : List ℕ
  used = take count places

  pub length-used : length used ≡ count
  length-used = length-take-le count places (omega (arith, p.few, p.long))

  pub used_have : HaveItems items used
  used_have k l =
      let below : k < count = omega (arith, l, length-used) in
      omega (arith, get_or-take count places k 0 below, p.within k 0 (omega (arith, below, p.few, p.long)), p.full)

  pub place_within : (k : ℕ) → k < room → get_or places k 0 < length items
  place_within k l = omega (arith, p.within k 0 (omega (arith, l, p.long)), p.full)

  pub length-row : length (items_at items used) ≡ count
  length-row = length-items_at items used used_have ∙ length-used

  pub row-length : (view : RowsValue X) → record { items = items_at items used } ≡ view → length view.items ≡ count
  row-length view is = sym (ap (λ r. length r.items) is) ∙ length-row

  -- the item at an index
  pub row_at_index : (k : ℕ) (d : X) → k < count → get_or (items_at items used) k d ≡ get_or items (get_or places k 0) d
  row_at_index k d below =
      get_or-items_at items used k d used_have (omega (arith, below, length-used))
      ∙ ap (λ place. get_or items place d) (get_or-take count places k 0 below)

  -- two places are different
  places_apart : (i j : ℕ) → i < j → j < room → get_or places i 0 ≢ get_or places j 0
  places_apart i j below within =
      eqb-false (get_or places i 0) (get_or places j 0) (apart_from_distinct eqb places i j 0 p.apart below (omega (arith, within, p.long)))

  used_apart : (i k : ℕ) → i < count → k < length used → k ≢ i → get_or used k 0 ≢ get_or used i 0
  used_apart i k wi wk ne e =
      let inside : k < count = omega (arith, wk, length-used) in
      let same : get_or places k 0 ≡ get_or places i 0 = sym (get_or-take count places k 0 inside) ∙ e ∙ get_or-take count places i 0 wi in
      elim (cases_lt k i) [
        | inl below ↦ places_apart k i below (omega (arith, wi, p.few)) same
        | inr above ↦ places_apart i k (omega (arith, above, ne)) (omega (arith, inside, p.few)) (sym same)
      ]

  -- a place is moved, and another number of them is in use
  pub placed-moved : (from to now : ℕ) (others : List X) → from < room → now ≤ room → length others ≡ length items → AreRowPlaces room now (moved places from to) others
  placed-moved from to now others within few same =
      let same_places : IsPermutation places (moved places from to) = permutation-moved places from to (omega (arith, within, p.long)) in
      record {
        long = length_permutation places (moved places from to) same_places ∙ p.long;
        full = same ∙ p.full;
        few = few;
        small = p.small;
        within = All-permutation (λ place. place < room) places (moved places from to) same_places p.within;
        apart = IsDistinct-IsPermutation eqb eqb_flips places (moved places from to) same_places p.apart;
      }

  -- other items are in the places
  pub placed-items : (now : ℕ) (others : List X) → now ≤ room → length others ≡ length items → AreRowPlaces room now places others
  placed-items now others few same = record { long = p.long; full = same ∙ p.full; few = few; small = p.small; within = p.within; apart = p.apart }

  -- an item comes into the first free place
  module _ (item : X) (free : count < room) where
    abbrev place : ℕ
    place = get_or places count 0

    there : slice_get (set items place item) place ≡ Some item
    there =
        slice_get-get_or (set items place item) place item (omega (arith, place_within count free, length-set items place item))
        ∙ ap Some (get_or-set_same items place item item (place_within count free))

    kept : items_at (set items place item) used ≡ items_at items used
    kept = items_at-set_other items place item used used_have (λ k l e.
        let below : k < count = omega (arith, l, length-used) in
        places_apart k count below free (sym (get_or-take count places k 0 below) ∙ e))

    pub row-inserted : (index : ℕ) → index ≤ count
        → items_at (set items place item) (take (suc count) (moved places count index)) ≡ insert (items_at items used) index item
    row-inserted index order =
        ap (items_at (set items place item)) (take-moved_down places count index order (omega (arith, free, p.long)))
        ∙ items_at-insert (set items place item) used index place item (have-set items place item used used_have) there
        ∙ ap (λ xs. insert xs index item) kept

  -- the item at an index goes
  pub row-removed : (index last : ℕ) → suc last ≡ count → index ≤ last
      → items_at items (take last (moved places index last)) ≡ remove (items_at items used) index
  row-removed index last is order =
      ap (items_at items) (take-moved_up places index last order (omega (arith, is, p.few, p.long)))
      ∙ ap (λ n. items_at items (remove (take n places) index)) is
      ∙ items_at-remove items used index used_have

  -- the item at an index is another one
  pub row-set : (index : ℕ) (item : X) → index < count
      → items_at (set items (get_or places index 0) item) used ≡ set (items_at items used) index item
  row-set index item below =
      ap (λ place. items_at (set items place item) used) (sym (get_or-take count places index 0 below))
      ∙ items_at-set_same items used index item used_have (omega (arith, below, length-used)) (λ k l ne. used_apart index k below l ne)
