-- How the name of a host is stored: in an array of fixed length.
use Rattle.std.specs.Prelude.{◌≡◌, ℕ, ◌-◌, ◌≤◌, IsTrue, List, ◌++◌, length, take, replicate}
use Rattle.std.proofs.Common.{length-take-le, subst, sym}
use Rattle.lg_config.specs.declared.host.TheConstants.{MAX_HOST}
use Rattle.lg_config.specs.declared.host.HostName.TheInside.{Inside}
use Rattle.lg_config.specs.Meaning.Hosts.{is_host}

-- a text and then zeros
abbrev pub padded_host : List ℕ → List ℕ
padded_host text = text ++ replicate (MAX_HOST - length text) 0

-- a row holds the name of a host of this length, and then zeros
pub record HoldsHost (row : List ℕ) (len : ℕ) : Type 0 where
  pub whole : length row ≡ MAX_HOST
  pub within : len ≤ MAX_HOST
  pub zeros : padded_host (take len row) ≡ row
  pub named : IsTrue (is_host (take len row))

-- so the name determines the row
pub unpadded_host : (fields : Inside) → HoldsHost fields.bytes fields.len
    → (let text = take fields.len fields.bytes in
    ◌≡◌ {A = Inside} record { bytes = padded_host text; len = length text } fields)
unpadded_host fields holds =
    let within = subst (λ n. fields.len ≤ n) (sym holds.whole) holds.within in
    let whole = length-take-le fields.len fields.bytes within in
    λ i. record { bytes = holds.zeros i; len = whole i }
