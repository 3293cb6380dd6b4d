-- Rows in rising order of their keys, for any order of keys.
use Rattle.std.specs.Prelude.{ℕ, ⊤, ◌≡◌, Bool, not, List, [], ◌∷◌}
use Rattle.std.specs.Prelude.{filter, Option, Some, None, if◌then◌else◌}
use Rattle.std.specs.List.{list_any}
use Rattle.std.specs.declared.cmp.Ordering.{Ordering}
use Rattle.std.specs.declared.cmp.Ordering.TheVariants.{Less, Equal, Greater}
use Rattle.std.specs.Ordering.{is_eq, nat_cmp}
use Rattle.std.specs.Cmp.Lexicographic.{slice_cmp}

-- one of three values, by whether the first of two keys is less than the second, the same, or greater
abbrev pub by_order : {A : Type 0} → Ordering → A → A → A → A
by_order Less less same more = less
by_order Equal less same more = same
by_order Greater less same more = more

-- the order of names: by their bytes, and a name comes before the longer names that begin with it
abbrev pub name_cmp : List ℕ → List ℕ → Ordering
name_cmp = slice_cmp nat_cmp

-- Keys in rising order: each is above those before it.
abbrev pub AreAbove : {K : Type 0} → (K → K → Ordering) → K → List K → Type 0
AreAbove cmp n [] = ⊤
AreAbove cmp n (m ∷ ms) = (cmp n m ≡ Less) × AreAbove cmp n ms

abbrev pub Rises : {K : Type 0} → (K → K → Ordering) → List K → Type 0
Rises cmp [] = ⊤
Rises cmp (n ∷ ns) = AreAbove cmp n ns × Rises cmp ns

module _ {K : Type 0} (cmp : K → K → Ordering) where
  -- whether two keys are the same by their order
  abbrev pub is_same : K → K → Bool
  is_same m n = is_eq (cmp m n)

  -- whether a key is among these
  abbrev pub is_among : K → List K → Bool
  is_among n ns = list_any (λ m. is_same m n) ns

  -- the rows with one more, which replaces the row with its key if there is one
  abbrev pub put_row : {R : Type 0} → (R → K) → R → List R → List R
  put_row key r [] = r ∷ []
  put_row key r (x ∷ xs) = by_order (cmp (key r) (key x)) (r ∷ x ∷ xs) (r ∷ xs) (x ∷ put_row key r xs)

  -- the row with a key, if there is one
  abbrev pub row_at : {R : Type 0} → (R → K) → K → List R → Option R
  row_at key n [] = None
  row_at key n (x ∷ xs) = by_order (cmp n (key x)) None (Some x) (row_at key n xs)

  -- the rows with other keys
  abbrev pub without_row : {R : Type 0} → (R → K) → K → List R → List R
  without_row key n rows = filter (λ r. not (is_same (key r) n)) rows

  -- keys in rising order, with this one put among them
  abbrev pub put_key : K → List K → List K
  put_key n ns = put_row (λ m. m) n ns

  -- the keys but this one
  abbrev pub without_key : K → List K → List K
  without_key n ns = without_row (λ m. m) n ns

  -- these keys in rising order, each once
  abbrev pub in_order : List K → List K
  in_order [] = []
  in_order (n ∷ ns) = put_key n (in_order ns)

  -- the different keys of a past, each at the place of its earliest occurrence
  abbrev pub distinct : List K → List K
  distinct [] = []
  distinct (n ∷ past) = if is_among n past then distinct past else n ∷ distinct past
