-- A list that is read item by item.
use Rattle.std.proofs.Common.{◌≡◌, ℕ, ◌+◌, ◌<◌, Bool, true, false, List, [], ◌∷◌, ◌++◌, length, take, Some, None, ◌∙◌, ap, arith, append-nil}
use Rattle.std.specs.Prelude.{filter, slice_get}
use Rattle.std.proofs.lemmas.List.{take_more}
use Rattle.std.proofs.lemmas.List.Elements.{filter-append}
use Rattle.std.proofs.lemmas.Option.{get_or_from_slice_get, slice_get_within, slice_get-get_or}

-- one item more
pub take-read : {A : Type 0} (xs : List A) (i : ℕ) (x : A) → slice_get xs i ≡ Some x → take (i + 1) xs ≡ take i xs ++ x ∷ []
take-read xs i x e =
    take_more xs i x (slice_get_within xs i x e)
    ∙ ap (λ y. take i xs ++ y ∷ []) (get_or_from_slice_get xs i x x e)

pub read-none : {A : Type 0} (xs : List A) (i : ℕ) → i < length xs → slice_get xs i ≡ None → ⊥
read-none [] i l e = omega arith
read-none (x ∷ xs) i l e = let is = slice_get-get_or (x ∷ xs) i x l in cc

-- one item more of those that pass a test
pub filter-read : {A : Type 0} (p : A → Bool) (xs : List A) (i : ℕ) (x : A) → slice_get xs i ≡ Some x → p x ≡ true
    → filter p (take (i + 1) xs) ≡ filter p (take i xs) ++ x ∷ []
filter-read p xs i x e t = ap (filter p) (take-read xs i x e) ∙ filter-append p (take i xs) (x ∷ []) ∙ rw t

pub filter-passed : {A : Type 0} (p : A → Bool) (xs : List A) (i : ℕ) (x : A) → slice_get xs i ≡ Some x → p x ≡ false
    → filter p (take (i + 1) xs) ≡ filter p (take i xs)
filter-passed p xs i x e f =
    ap (filter p) (take-read xs i x e) ∙ filter-append p (take i xs) (x ∷ []) ∙ rw (f, append-nil)
