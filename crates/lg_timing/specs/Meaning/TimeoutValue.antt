-- The suspicion timeouts of one suspicion.
use Rattle.std.specs.Prelude.{ℕ}

-- the least and the greatest timeout in milliseconds, and after how many confirmations the timeout is the least
pub record TimeoutValue : Type 0 where
  pub min : ℕ
  pub max : ℕ
  pub confirmations : ℕ
