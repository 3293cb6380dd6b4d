-- What is read of the elements of an array, one after another.
use Rattle.std.proofs.Common.{◌≡◌, ℕ, zero, suc, ◌+◌, ◌<◌, List, [], ◌∷◌, ◌++◌, length, get_or, take, Option, Some, None, option_and_then, refl, ap, sym, ◌∙◌, arith}
use Rattle.std.proofs.lemmas.List.{take_more}
use Rattle.std.proofs.lemmas.Option.{same_Some}
use Rattle.serde_json.specs.Data.{Data}
use Rattle.serde_json.specs.View.{view, items_view}
use Rattle.serde_json.specs.declared.value.Value.{Value}
use Rattle.lg_client.specs.Meaning.Fields.{each_read}

-- something and what is behind it
abbrev onto : {A : Type 0} → Option A → Option (List A) → Option (List A)
onto first others = option_and_then (λ y. option_and_then (λ ys. Some (y ∷ ys)) others) first

onto-more : {A : Type 0} (first : Option A) (others more : Option (List A)) (xs : List A) (x : A) → onto first others ≡ Some xs
    → ((ys : List A) → others ≡ Some ys → more ≡ Some (ys ++ x ∷ [])) → onto first more ≡ Some (xs ++ x ∷ [])
onto-more None others more xs x read next = absurd cc
onto-more (Some y) None more xs x read next = absurd cc
onto-more {A} (Some y) (Some ys) more xs x read next =
    rw (next ys refl) (ap (λ (zs : List A). Some (zs ++ x ∷ [])) (same_Some (y ∷ ys) xs read))

onto-none : {A : Type 0} (first : Option A) → onto first None ≡ None
onto-none None = refl
onto-none (Some y) = refl

each-last : {A : Type 0} (of_one : Data → Option A) (vs : List Value) (v : Value) (xs : List A) (x : A) → each_read of_one (items_view vs) ≡ Some xs → of_one (view v) ≡ Some x
    → each_read of_one (items_view (vs ++ v ∷ [])) ≡ Some (xs ++ x ∷ [])
each-last {A} of_one [] v xs x read found = rw found (ap (λ (zs : List A). Some (zs ++ x ∷ [])) (same_Some [] xs read))
each-last of_one (w ∷ vs) v xs x read found =
    onto-more (of_one (view w)) (each_read of_one (items_view vs)) (each_read of_one (items_view (vs ++ v ∷ []))) xs x read
    (λ ys is. each-last of_one vs v ys x is found)

-- the elements so far, and one more
pub each_more : {A : Type 0} (of_one : Data → Option A) (vs : List Value) (i : ℕ) (v : Value) (xs : List A) (x : A) → i < length vs → v ≡ get_or vs i v
    → each_read of_one (items_view (take i vs)) ≡ Some xs → of_one (view v) ≡ Some x → each_read of_one (items_view (take (i + 1) vs)) ≡ Some (xs ++ x ∷ [])
each_more of_one vs i v xs x within is read found =
    ap (λ (ws : List Value). each_read of_one (items_view ws)) (take_more vs i v within ∙ ap (λ w. take i vs ++ w ∷ []) (sym is))
    ∙ each-last of_one (take i vs) v xs x read found

-- one of which nothing is read
pub each_none : {A : Type 0} (of_one : Data → Option A) (vs : List Value) (i : ℕ) (v : Value) → i < length vs → v ≡ get_or vs i v → of_one (view v) ≡ None
    → each_read of_one (items_view vs) ≡ None
each_none of_one [] i v within is none = absurd (omega arith)
each_none of_one (w ∷ vs) zero v within is none = rw (← is, none) refl
each_none of_one (w ∷ vs) (suc i) v within is none =
    rw (each_none of_one vs i v (omega arith) is none) (onto-none (of_one (view w)))
