-- Where the first element that passes a test stands.
use Rattle.std.proofs.Common.{
  ◌≡◌,
  ℕ,
  ◌<◌,
  ◌≤◌,
  Bool,
  true,
  false,
  cond,
  ltb,
  List,
  [],
  ◌∷◌,
  length,
  map,
  Option,
  Some,
  None,
  refl,
  ap,
  ◌∙◌,
  arith,
}
use Rattle.std.specs.Prelude.{slice_get}
use Rattle.std.specs.List.{find, position, position_or_len}
use Rattle.std.specs.Option.{option_map}
use Rattle.std.proofs.lemmas.List.Folds.{find_at}
use Rattle.std.proofs.lemmas.Option.{slice_get_past}

first_mapped : {X Y : Type 0} (f : X → Y) (found : Bool) (x : X) (r : Option X) (o : Option Y) → o ≡ option_map f r
    → cond found (Some (f x)) o ≡ option_map f (cond found (Some x) r)
first_mapped f true x r o e = refl
first_mapped f false x r o e = e

pub find-map : {X Y : Type 0} (p : Y → Bool) (f : X → Y) (xs : List X) → find p (map f xs) ≡ option_map f (find (λ x. p (f x)) xs)
find-map p f [] = refl
find-map p f (x ∷ xs) = first_mapped f (p (f x)) x (find (λ y. p (f y)) xs) (find p (map f xs)) (find-map p f xs)

placed : (n len at : ℕ) → Some at ≡ cond (ltb n len) (Some n) None → (n ≡ at) × (n < len)
placed n len at e = grind arith

unplaced : (n len : ℕ) → ◌≡◌ {A = Option ℕ} None (cond (ltb n len) (Some n) None) → len ≤ n
unplaced n len e = grind arith

pub find_placed : {X : Type 0} (p : X → Bool) (xs : List X) (at : ℕ) → Some at ≡ position p xs → find p xs ≡ slice_get xs at
find_placed p xs at e = find_at p xs ∙ ap (λ (n : ℕ). slice_get xs n) (placed (position_or_len p xs) (length xs) at e).0

pub placed_within : {X : Type 0} (p : X → Bool) (xs : List X) (at : ℕ) → Some at ≡ position p xs → at < length xs
placed_within p xs at e = let h = placed (position_or_len p xs) (length xs) at e in omega (arith, h.0, h.1)

pub find_unplaced : {X : Type 0} (p : X → Bool) (xs : List X) → None ≡ position p xs → find p xs ≡ None
find_unplaced p xs e = find_at p xs ∙ slice_get_past xs (position_or_len p xs) (unplaced (position_or_len p xs) (length xs) e)
