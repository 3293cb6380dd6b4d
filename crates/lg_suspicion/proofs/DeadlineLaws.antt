-- An accuser never moves a deadline to a later moment.
use Rattle.std.proofs.Common.{◌≡◌, ℕ, zero, suc, ◌+◌, ◌-◌, ◌*◌, ◌≤◌, ◌<◌, arith, lit≤}
use Rattle.std.proofs.Math.Nat.{mul-le-mul_left}
use Rattle.lg_timing.specs.Meaning.Tables.{ratio_of}
use Rattle.lg_timing.specs.Meaning.TimeoutValue.{TimeoutValue}
use Rattle.lg_timing.specs.Meaning.Timeouts.{timeout_of}

-- the quotients of a row rise
pub ratio-rises : (k c : ℕ) → k ≤ 5 → c < k → ratio_of k c ≤ ratio_of k (c + 1)
unfolding ratio_of
ratio-rises (suc zero) zero few within = lit≤ tt
ratio-rises (suc zero) (suc c) few within = absurd (omega (arith, within))
ratio-rises (suc (suc zero)) zero few within = lit≤ tt
ratio-rises (suc (suc zero)) (suc zero) few within = lit≤ tt
ratio-rises (suc (suc zero)) (suc (suc c)) few within = absurd (omega (arith, within))
ratio-rises (suc (suc (suc zero))) zero few within = lit≤ tt
ratio-rises (suc (suc (suc zero))) (suc zero) few within = lit≤ tt
ratio-rises (suc (suc (suc zero))) (suc (suc zero)) few within = lit≤ tt
ratio-rises (suc (suc (suc zero))) (suc (suc (suc c))) few within = absurd (omega (arith, within))
ratio-rises (suc (suc (suc (suc zero)))) zero few within = lit≤ tt
ratio-rises (suc (suc (suc (suc zero)))) (suc zero) few within = lit≤ tt
ratio-rises (suc (suc (suc (suc zero)))) (suc (suc zero)) few within = lit≤ tt
ratio-rises (suc (suc (suc (suc zero)))) (suc (suc (suc zero))) few within = lit≤ tt
ratio-rises (suc (suc (suc (suc zero)))) (suc (suc (suc (suc c)))) few within = absurd (omega (arith, within))
ratio-rises (suc (suc (suc (suc (suc zero))))) zero few within = lit≤ tt
ratio-rises (suc (suc (suc (suc (suc zero))))) (suc zero) few within = lit≤ tt
ratio-rises (suc (suc (suc (suc (suc zero))))) (suc (suc zero)) few within = lit≤ tt
ratio-rises (suc (suc (suc (suc (suc zero))))) (suc (suc (suc zero))) few within = lit≤ tt
ratio-rises (suc (suc (suc (suc (suc zero))))) (suc (suc (suc (suc zero)))) few within = lit≤ tt
ratio-rises (suc (suc (suc (suc (suc zero))))) (suc (suc (suc (suc (suc c))))) few within = absurd (omega (arith, within))
ratio-rises zero c few within = absurd (omega (arith, within))
ratio-rises (suc (suc (suc (suc (suc (suc k)))))) c few within = absurd (omega (arith, few))

-- one more confirmation makes no timeout longer
pub timeout-falls : (t : TimeoutValue) (c : ℕ) → t.confirmations ≤ 5 → c < t.confirmations → timeout_of t (c + 1) ≤ timeout_of t c
unfolding timeout_of
timeout-falls t c few within =
    let more : (t.max - t.min) * ratio_of t.confirmations c ≤ (t.max - t.min) * ratio_of t.confirmations (c + 1) = mul-le-mul_left (t.max - t.min) (ratio-rises t.confirmations c few within) in
    omega (arith, more)

-- nor does one more accuser move a deadline to a later moment
pub deadline-falls : (raised : ℕ) (t : TimeoutValue) (n m : ℕ) → t.confirmations ≤ 5 → 1 ≤ n → n ≤ t.confirmations
    → m ≡ suc n → raised + timeout_of t (m - 1) ≤ raised + timeout_of t (n - 1)
deadline-falls raised t n m few some fits more =
    let one : m - 1 ≡ (n - 1) + 1 = omega (arith, more) in
    rw one (omega (arith, timeout-falls t (n - 1) few (omega arith)))
