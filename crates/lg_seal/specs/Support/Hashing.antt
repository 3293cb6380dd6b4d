-- Hashers that have taken the padded key.
use Rattle.std.specs.Prelude.{ℕ, List}
use Rattle.sha2.specs.Hashers.{Holds256}
use Rattle.lg_seal.specs.declared.tag.Hashers.{Hashers}
use Rattle.lg_seal.specs.Meaning.Tags.{inner_pad, outer_pad, padded_key}

-- each hasher has taken this key, padded with its pad, and nothing more
pub record HaveTaken (key : List ℕ) (hashers : Hashers) : Type 0 where
  pub inner : Holds256 hashers.inner (padded_key inner_pad key)
  pub outer : Holds256 hashers.outer (padded_key outer_pad key)
