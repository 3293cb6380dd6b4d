-- How a name is stored: in an array of fixed length.
use Rattle.std.specs.Prelude.{◌≡◌, ℕ, ◌-◌, ◌≤◌, IsTrue, List, ◌++◌, length, take, replicate}
use Rattle.std.proofs.Common.{length-take-le, subst, sym}
use Rattle.lg_rules.specs.declared.name.TheConstants.{MAX_NAME}
use Rattle.lg_rules.specs.Meaning.Name.{is_name}
use Rattle.lg_rules.specs.declared.name.Name.TheInside.{Inside}

-- a text and then zeros
abbrev pub padded : List ℕ → List ℕ
padded text = text ++ replicate (MAX_NAME - length text) 0

-- a row holds a name of this length, and then zeros
pub record HoldsName (row : List ℕ) (len : ℕ) : Type 0 where
  pub whole : length row ≡ MAX_NAME
  pub within : len ≤ MAX_NAME
  pub zeros : padded (take len row) ≡ row
  pub named : IsTrue (is_name (take len row))

-- so the name determines the row
pub unpadded : (fields : Inside) → HoldsName fields.bytes fields.len
    → (let text = take fields.len fields.bytes in
    ◌≡◌ {A = Inside} record { bytes = padded text; len = length text } fields)
unpadded fields holds =
    let within = subst (λ n. fields.len ≤ n) (sym holds.whole) holds.within in
    let whole = length-take-le fields.len fields.bytes within in
    λ i. record { bytes = holds.zeros i; len = whole i }
