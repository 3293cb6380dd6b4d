-- A text by the place at which it is cut.
use Rattle.std.proofs.Common.{◌≡◌, ℕ, ◌+◌, ◌-◌, ◌<◌, ◌≤◌, cond, ltb, List, length, take, drop, Option, Some, None, refl, sym, ap, arith, take_all, length-drop}
use Rattle.std.specs.List.{position_or_len, position, before_first, after_first}
use Rattle.std.specs.Option.{option_map}
use Rattle.lg_text.specs.Meaning.Cutting.{before, behind, is_byte}

-- the place of the first such byte, or the length
abbrev pub place : ℕ → List ℕ → ℕ
place byte xs = position_or_len (is_byte byte) xs

-- what stands at and behind a place
pub rest_of : (xs : List ℕ) (n : ℕ) → take (length xs - n) (drop n xs) ≡ drop n xs
rest_of xs n = take_all (length xs - n) (drop n xs) (omega (arith, length-drop n xs))

found_at : (n len at : ℕ) → Some at ≡ cond (ltb n len) (Some n) None → (n ≡ at) × (n < len)
found_at n len at e = grind arith

found_none : (n len : ℕ) → ◌≡◌ {A = Option ℕ} None (cond (ltb n len) (Some n) None) → len ≤ n
found_none n len e = grind arith

-- ---- what is cut off at a place

pub before-at : (byte : ℕ) (xs : List ℕ) (at : ℕ) → Some at ≡ position (is_byte byte) xs → take at xs ≡ before byte xs
unfolding before
before-at byte xs at e = ap (λ n. take n xs) (sym (found_at (place byte xs) (length xs) at e).0)

pub behind-at : (byte : ℕ) (xs : List ℕ) (at : ℕ) → Some at ≡ position (is_byte byte) xs
    → Some (take (length xs - (at + 1)) (drop (at + 1) xs)) ≡ behind byte xs
unfolding behind
behind-at byte xs at e = rw (rest_of xs (at + 1)) (ap (option_map (λ n. drop (n + 1) xs)) e)

pub before-none : (byte : ℕ) (xs : List ℕ) → ◌≡◌ {A = Option ℕ} None (position (is_byte byte) xs) → xs ≡ before byte xs
unfolding before
before-none byte xs e = sym (take_all (place byte xs) xs (found_none (place byte xs) (length xs) e))

pub behind-none : (byte : ℕ) (xs : List ℕ) → ◌≡◌ {A = Option ℕ} None (position (is_byte byte) xs) → ◌≡◌ {A = Option (List ℕ)} None (behind byte xs)
unfolding behind
behind-none byte xs e = ap (option_map (λ n. drop (n + 1) xs)) e

-- ---- the place, by what is cut off

pub before-is : (byte : ℕ) (xs : List ℕ) → before byte xs ≡ before_first (is_byte byte) xs
unfolding before
before-is byte xs = refl

some_rest : (n len : ℕ) (xs rest : List ℕ) → Some rest ≡ option_map (λ at. drop (at + 1) xs) (cond (ltb n len) (Some n) None) → (rest ≡ drop (n + 1) xs) × (n < len)
some_rest n len xs rest e = grind arith

no_rest : (n len : ℕ) (xs : List ℕ) → ◌≡◌ {A = Option (List ℕ)} None (option_map (λ at. drop (at + 1) xs) (cond (ltb n len) (Some n) None)) → len ≤ n
no_rest n len xs e = grind arith

pub some-behind : (byte : ℕ) (xs rest : List ℕ) → Some rest ≡ behind byte xs → (rest ≡ after_first (is_byte byte) xs) × (place byte xs < length xs)
unfolding behind
some-behind byte xs rest e = some_rest (place byte xs) (length xs) xs rest e

pub none-behind : (byte : ℕ) (xs : List ℕ) → ◌≡◌ {A = Option (List ℕ)} None (behind byte xs) → length xs ≤ place byte xs
unfolding behind
none-behind byte xs e = no_rest (place byte xs) (length xs) xs e

-- nothing is cut off a text where nothing is behind
pub whole-before : (byte : ℕ) (xs : List ℕ) → ◌≡◌ {A = Option (List ℕ)} None (behind byte xs) → before byte xs ≡ xs
unfolding before
whole-before byte xs e = take_all (place byte xs) xs (none-behind byte xs e)
