-- The bits of a word that is shifted, opened or closed.
use Rattle.std.proofs.Common.{
  ◌≡◌,
  ℕ,
  zero,
  suc,
  ◌+◌,
  ◌-◌,
  ◌*◌,
  ◌/◌,
  ◌%◌,
  ◌^◌,
  ◌<◌,
  ◌≤◌,
  max,
  refl,
  sym,
  ap,
  ◌∙◌,
  arith,
  inl,
  inr,
}
use Rattle.std.specs.Prelude.{bit_and, bit_or, nat_eq, nat_lt}
use Rattle.std.specs.Int.{bit_at}
use Rattle.std.proofs.Math.Numerals.{add-one}
use Rattle.std.proofs.lemmas.Bool.{cases_lt, lt-ltb, le-ltb}
use Rattle.std.proofs.lemmas.Nat.{pow_pos, shr-shr, shr_split, mod_below, one_shl, and_mask}
use Rattle.std.proofs.lemmas.Nat.Bits.{
  bit_at-zero,
  bit_at_or,
  bit_at_above,
  bit_at_ones,
  bit_at_ones_above,
  bit_at_cat_low,
  bit_at_cat_high,
}

pub bit_at-mod : (word count i : ℕ) → i < count → bit_at (word % 2 ^ count) i ≡ bit_at word i
bit_at-mod word count i within =
    sym (bit_at_cat_low (word / 2 ^ count) count (word % 2 ^ count) i within)
    ∙ ap (λ n. bit_at n i) (shr_split word count)

bit_at-shl_low : (word count i : ℕ) → i < count → bit_at (word * 2 ^ count) i ≡ 0
bit_at-shl_low word count i within =
    ap (λ n. bit_at n i) (omega arith) ∙ bit_at_cat_low word count 0 i within ∙ bit_at-zero i

bit_at-shl_high : (word count i : ℕ) → count ≤ i → bit_at (word * 2 ^ count) i ≡ bit_at word (i - count)
bit_at-shl_high word count i past =
    ap (λ n. bit_at n i) (omega arith) ∙ bit_at_cat_high word count 0 i (pow_pos count) past

bit_at-shr : (word count i : ℕ) → bit_at (word / 2 ^ count) i ≡ bit_at word (count + i)
bit_at-shr word count i = ap (λ n. n % 2) (shr-shr word count i)

-- a word of 64 bits shifted up by one
pub double_lowest : (word : ℕ) → bit_at (word * 2 % 2 ^ 64) 0 ≡ 0
double_lowest word = bit_at-mod (word * 2) 64 0 (omega arith) ∙ bit_at-shl_low word 1 0 (omega arith)

pub double_above : (word i : ℕ) → i < 63 → bit_at (word * 2 % 2 ^ 64) (i + 1) ≡ bit_at word i
double_above word i within =
    bit_at-mod (word * 2) 64 (i + 1) (omega arith) ∙ bit_at-shl_high word 1 (i + 1) (omega arith)
    ∙ ap (bit_at word) (omega arith)

pub risen_lowest : (word below : ℕ) → bit_at (bit_or (word * 2 % 2 ^ 64) (below / 2 ^ 63)) 0 ≡ bit_at below 63
risen_lowest word below =
    let shifted = bit_at-shr below 63 0 in
    omega (arith, bit_at_or (word * 2 % 2 ^ 64) (below / 2 ^ 63) 0, double_lowest word, shifted)

pub risen_above : (word below i : ℕ) → below < 2 ^ 64 → i < 63
    → bit_at (bit_or (word * 2 % 2 ^ 64) (below / 2 ^ 63)) (i + 1) ≡ bit_at word i
risen_above word below i fits within =
    let none : bit_at (below / 2 ^ 63) (i + 1) ≡ 0 =
    bit_at-shr below 63 (i + 1) ∙ bit_at_above below 64 (63 + (i + 1)) fits (omega arith) in
    omega (arith, bit_at_or (word * 2 % 2 ^ 64) (below / 2 ^ 63) (i + 1), double_above word i within, none)

pub topped_below : (word above i : ℕ) → i < 63 → bit_at (bit_or word (above * 2 ^ 63 % 2 ^ 64)) i ≡ bit_at word i
topped_below word above i within =
    let none : bit_at (above * 2 ^ 63 % 2 ^ 64) i ≡ 0 =
    bit_at-mod (above * 2 ^ 63) 64 i (omega arith) ∙ bit_at-shl_low above 63 i within in
    omega (arith, bit_at_or word (above * 2 ^ 63 % 2 ^ 64) i, none)

pub topped_highest : (word above : ℕ) → bit_at word 63 ≡ 0
    → bit_at (bit_or word (above * 2 ^ 63 % 2 ^ 64)) 63 ≡ bit_at above 0
topped_highest word above clear =
    let top : bit_at (above * 2 ^ 63 % 2 ^ 64) 63 ≡ bit_at above 0 =
    bit_at-mod (above * 2 ^ 63) 64 63 (omega arith) ∙ bit_at-shl_high above 63 63 (omega arith) in
    omega (arith, bit_at_or word (above * 2 ^ 63 % 2 ^ 64) 63, clear, top)

-- `word & ((1 << place) - 1)`
pub low_mask : (word place : ℕ) → place < 64 → bit_and word (1 * 2 ^ place % 2 ^ 64 - 1) ≡ word % 2 ^ place
low_mask word place within = rw (one_shl place 64 within) (and_mask word place)

-- one part of a word above a place, and the word's bits below the place
module _ (high word place : ℕ) (within : place < 64) where
  -- the bits of both parts
  abbrev pub joined : ℕ
  joined = bit_or high (bit_and word (1 * 2 ^ place % 2 ^ 64 - 1))

  joined_at : (i : ℕ) → bit_at joined i ≡ max (bit_at high i) (bit_at (word % 2 ^ place) i)
  joined_at i =
      bit_at_or high (bit_and word (1 * 2 ^ place % 2 ^ 64 - 1)) i
      ∙ ap (λ n. max (bit_at high i) (bit_at n i)) (low_mask word place within)

  pub joined_below : (i : ℕ) → i < place → bit_at high i ≡ 0 → bit_at joined i ≡ bit_at word i
  joined_below i below none = omega (arith, joined_at i, none, bit_at-mod word place i below)

  pub joined_above : (i : ℕ) → place ≤ i → bit_at joined i ≡ bit_at high i
  joined_above i above =
      let none = bit_at_above (word % 2 ^ place) place i (mod_below word (2 ^ place) (pow_pos place)) above in
      omega (arith, joined_at i, none)

-- the part of a word from a place on, with zeros below
module _ (part place : ℕ) where
  abbrev pub placed : ℕ
  placed = part * 2 ^ place % 2 ^ 64

  pub placed_below : (i : ℕ) → i < 64 → i < place → bit_at placed i ≡ 0
  placed_below i inside below = bit_at-mod (part * 2 ^ place) 64 i inside ∙ bit_at-shl_low part place i below

  pub placed_above : (i : ℕ) → i < 64 → place ≤ i → bit_at placed i ≡ bit_at part (i - place)
  placed_above i inside above = bit_at-mod (part * 2 ^ place) 64 i inside ∙ bit_at-shl_high part place i above

-- a word that is opened at a place
module _ (word place : ℕ) (within : place < 64) where
  abbrev pub opened_high : ℕ
  opened_high = placed (word / 2 ^ place) place * 2 % 2 ^ 64

  opened_none : (i : ℕ) → i ≤ place → bit_at opened_high i ≡ 0
  opened_none zero below = double_lowest (placed (word / 2 ^ place) place)
  opened_none (suc i) below =
      ap (bit_at opened_high) (sym (add-one i)) ∙ double_above (placed (word / 2 ^ place) place) i (omega arith)
      ∙ placed_below (word / 2 ^ place) place i (omega arith) (omega arith)

  pub opened_below : (i : ℕ) → i < place → bit_at (joined opened_high word place within) i ≡ bit_at word i
  opened_below i below = joined_below opened_high word place within i below (opened_none i (omega arith))

  pub opened_flags : bit_at (joined opened_high word place within) place ≡ 0
  opened_flags = joined_above opened_high word place within place (omega arith) ∙ opened_none place (omega arith)

  pub opened_above : (i : ℕ) → place ≤ i → i < 63
      → bit_at (joined opened_high word place within) (i + 1) ≡ bit_at word i
  opened_above i above inside =
      joined_above opened_high word place within (i + 1) (omega arith)
      ∙ double_above (placed (word / 2 ^ place) place) i inside
      ∙ placed_above (word / 2 ^ place) place i (omega arith) above
      ∙ bit_at-shr word place (i - place)
      ∙ ap (bit_at word) (omega arith)

  -- a word that is closed at a place
  abbrev pub closed_high : ℕ
  closed_high = placed (word / 2 ^ place / 2) place

  pub closed_below : (i : ℕ) → i < place → bit_at (joined closed_high word place within) i ≡ bit_at word i
  closed_below i below =
      joined_below closed_high word place within i below
      (placed_below (word / 2 ^ place / 2) place i (omega arith) below)

  pub closed_above : (i : ℕ) → place ≤ i → i < 64
      → bit_at (joined closed_high word place within) i ≡ bit_at word (i + 1)
  closed_above i above inside =
      joined_above closed_high word place within i above
      ∙ placed_above (word / 2 ^ place / 2) place i inside above
      ∙ bit_at-shr (word / 2 ^ place) 1 (i - place)
      ∙ bit_at-shr word place (1 + (i - place))
      ∙ ap (bit_at word) (omega arith)

-- the lowest bits
pub lowest_some : (count i : ℕ) → count < 64 → nat_eq (bit_at (1 * 2 ^ count % 2 ^ 64 - 1) i) 1 ≡ nat_lt i count
lowest_some count i few =
    rw (one_shl count 64 few)
    (elim (cases_lt i count) [
      | inl below ↦ rw (bit_at_ones count i below, lt-ltb i count below) refl
      | inr above ↦ rw (bit_at_ones_above count i above, le-ltb i count above) refl
    ])

pub lowest_all : (count i : ℕ) → i < 64 → 64 ≤ count → nat_eq (bit_at (2 ^ 64 - 1) i) 1 ≡ nat_lt i count
lowest_all count i within many =
    let below : i < count = omega arith in
    ap (λ bit. nat_eq bit 1) (bit_at_ones 64 i within) ∙ sym (lt-ltb i count below)
