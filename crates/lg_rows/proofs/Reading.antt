-- The items in some places: how many there are, which is at an index, and what is left once a place or an item changes.
use Rattle.std.proofs.Common.{◌≡◌, ◌≢◌, ℕ, zero, suc, ◌<◌, List, [], ◌∷◌, ◌++◌, length, get_or, set, take, drop, insert, remove, Some, refl, sym, ◌∙◌, ap, arith, inl, inr}
use Rattle.std.specs.Prelude.{slice_get}
use Rattle.std.specs.List.{cons_option}
use Rattle.std.proofs.lemmas.List.{same_lists, length-set, get_or-set_same, get_or-set_other}
use Rattle.std.proofs.lemmas.List.Elements.{filter_map-append}
use Rattle.std.proofs.lemmas.Option.{slice_get-get_or}
use Rattle.std.proofs.lemmas.Bool.Decides.{eqb_tells}
use Rattle.lg_rows.specs.Support.Places.{items_at}

module _ {X : Type 0} where
  -- the item in a place
  held : (items : List X) (place : ℕ) → place < length items → (x : X) × (slice_get items place ≡ Some x)
  held [] place within = absurd (omega arith)
  held (x ∷ items) zero within = (x, refl)
  held (x ∷ items) (suc place) within = held items place (omega arith)

  -- each of these places has an item
  abbrev pub HaveItems : List X → List ℕ → Type 0
  HaveItems items places = (k : ℕ) → k < length places → get_or places k 0 < length items

  module _ (items : List X) where
    rest_have : (p : ℕ) (places : List ℕ) → HaveItems items (p ∷ places) → HaveItems items places
    rest_have p places have k l = have (suc k) (omega arith)

    -- the first place's item, and the others
    items_at-cons : (p : ℕ) (places : List ℕ) (x : X) → slice_get items p ≡ Some x → items_at items (p ∷ places) ≡ x ∷ items_at items places
    items_at-cons p places x is = ap (λ o. cons_option o (items_at items places)) is

    pub length-items_at : (places : List ℕ) → HaveItems items places → length (items_at items places) ≡ length places
    length-items_at [] have = refl
    length-items_at (p ∷ places) have =
        let first = held items p (have 0 (omega arith)) in
        ap length (items_at-cons p places first.0 first.1) ∙ ap suc (length-items_at places (rest_have p places have))

    pub get_or-items_at : (places : List ℕ) (k : ℕ) (d : X) → HaveItems items places → k < length places
        → get_or (items_at items places) k d ≡ get_or items (get_or places k 0) d
    get_or-items_at [] k d have l = absurd (omega arith)
    get_or-items_at (p ∷ places) zero d have l =
        ap (λ xs. get_or xs 0 d) (items_at-cons p places (get_or items p d) (slice_get-get_or items p d (have 0 (omega arith))))
    get_or-items_at (p ∷ places) (suc k) d have l =
        let first = held items p (have 0 (omega arith)) in
        ap (λ xs. get_or xs (suc k) d) (items_at-cons p places first.0 first.1)
        ∙ get_or-items_at places k d (rest_have p places have) (omega arith)

    take-items_at : (places : List ℕ) (i : ℕ) → HaveItems items places → take i (items_at items places) ≡ items_at items (take i places)
    take-items_at [] zero have = refl
    take-items_at [] (suc i) have = refl
    take-items_at (p ∷ places) zero have = refl
    take-items_at (p ∷ places) (suc i) have =
        let first = held items p (have 0 (omega arith)) in
        ap (take (suc i)) (items_at-cons p places first.0 first.1)
        ∙ ap (λ xs. first.0 ∷ xs) (take-items_at places i (rest_have p places have))
        ∙ sym (items_at-cons p (take i places) first.0 first.1)

    drop-items_at : (places : List ℕ) (i : ℕ) → HaveItems items places → drop i (items_at items places) ≡ items_at items (drop i places)
    drop-items_at [] zero have = refl
    drop-items_at [] (suc i) have = refl
    drop-items_at (p ∷ places) zero have = refl
    drop-items_at (p ∷ places) (suc i) have =
        let first = held items p (have 0 (omega arith)) in
        ap (drop (suc i)) (items_at-cons p places first.0 first.1) ∙ drop-items_at places i (rest_have p places have)

    -- one place more
    pub items_at-insert : (places : List ℕ) (i p : ℕ) (x : X) → HaveItems items places → slice_get items p ≡ Some x
        → items_at items (insert places i p) ≡ insert (items_at items places) i x
    items_at-insert places i p x have is =
        filter_map-append (slice_get items) (take i places) (p ∷ drop i places)
        ∙ ap (λ xs. items_at items (take i places) ++ xs) (items_at-cons p (drop i places) x is)
        ∙ ap (λ xs. xs ++ x ∷ items_at items (drop i places)) (sym (take-items_at places i have))
        ∙ ap (λ xs. take i (items_at items places) ++ x ∷ xs) (sym (drop-items_at places i have))

    -- one place less
    pub items_at-remove : (places : List ℕ) (i : ℕ) → HaveItems items places
        → items_at items (remove places i) ≡ remove (items_at items places) i
    items_at-remove places i have =
        filter_map-append (slice_get items) (take i places) (drop (suc i) places)
        ∙ ap (λ xs. xs ++ items_at items (drop (suc i) places)) (sym (take-items_at places i have))
        ∙ ap (λ xs. take i (items_at items places) ++ xs) (sym (drop-items_at places (suc i) have))

    -- an item is put in a place
    pub have-set : (p : ℕ) (x : X) (places : List ℕ) → HaveItems items places → HaveItems (set items p x) places
    have-set p x places have k l = omega (arith, have k l, length-set items p x)

    -- one that isn't among these
    pub items_at-set_other : (p : ℕ) (x : X) (places : List ℕ) → HaveItems items places → ((k : ℕ) → k < length places → get_or places k 0 ≢ p)
        → items_at (set items p x) places ≡ items_at items places
    items_at-set_other p x [] have other = refl
    items_at-set_other p x (q ∷ places) have other =
        let first = held items q (have 0 (omega arith)) in
        let within : q < length (set items p x) = have-set p x (q ∷ places) have 0 (omega arith) in
        let kept : slice_get (set items p x) q ≡ Some first.0 =
        slice_get-get_or (set items p x) q first.0 within
        ∙ ap Some (get_or-set_other items p q x first.0 (other 0 (omega arith)))
        ∙ sym (slice_get-get_or items q first.0 (have 0 (omega arith))) ∙ first.1
        in
        ap (λ o. cons_option o (items_at (set items p x) places)) kept
        ∙ ap (λ xs. first.0 ∷ xs) (items_at-set_other p x places (rest_have q places have) (λ k l. other (suc k) (omega arith)))
        ∙ sym (items_at-cons q places first.0 first.1)

  -- that at an index
  pub items_at-set_same : (items : List X) (places : List ℕ) (i : ℕ) (x : X) → HaveItems items places → i < length places
      → ((k : ℕ) → k < length places → k ≢ i → get_or places k 0 ≢ get_or places i 0)
      → items_at (set items (get_or places i 0) x) places ≡ set (items_at items places) i x
  items_at-set_same items places i x have within apart =
      let p = get_or places i 0 in
      let now : HaveItems (set items p x) places = have-set items p x places have in
      let long : length (items_at items places) ≡ length places = length-items_at items places have in
      let long_now : length (items_at (set items p x) places) ≡ length places = length-items_at (set items p x) places now in
      same_lists (items_at (set items p x) places) (set (items_at items places) i x) (long_now ∙ sym (length-set (items_at items places) i x ∙ long)) (λ k d l.
      let inside : k < length places = omega (arith, l, long_now) in
      get_or-items_at (set items p x) places k d now inside
      ∙ elim (eqb_tells k i) [
        | inl same ↦ (
            ap (λ j. get_or (set items p x) (get_or places j 0) d) same.1
            ∙ get_or-set_same items p x d (have i within)
            ∙ sym (ap (λ j. get_or (set (items_at items places) i x) j d) same.1 ∙ get_or-set_same (items_at items places) i x d (omega (arith, within, long))))
        | inr other ↦ (
            get_or-set_other items p (get_or places k 0) x d (apart k inside other.1)
            ∙ sym (get_or-set_other (items_at items places) i k x d other.1 ∙ get_or-items_at items places k d have inside))
      ])
