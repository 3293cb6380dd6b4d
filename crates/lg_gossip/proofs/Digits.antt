-- How many decimal digits a number has.
use Rattle.std.proofs.Common.{◌≡◌, ℕ, ◌+◌, ◌/◌, ◌%◌, ◌^◌, ◌<◌, ◌≤◌, [], ◌∷◌, length, decimal, ◌∙◌, ap, arith, length-append}
use Rattle.std.proofs.lemmas.Fmt.{decimal_digit, decimal_step, length-decimal-le}
use Rattle.lg_gossip.specs.Meaning.Queue.{decimal_digits}

pub one_digit : (n : ℕ) → n < 10 → decimal_digits n ≡ 1
one_digit n small = ap length (decimal_digit n small)

-- one more than without the last digit
pub one_more : (n : ℕ) → 10 ≤ n → n < 2 ^ 64 → decimal_digits n ≡ decimal_digits (n / 10) + 1
one_more n some small = ap length (decimal_step n some small) ∙ length-append (decimal (n / 10)) ((48 + n % 10) ∷ [])

-- a usize has at most twenty
pub at_most_twenty : (n : ℕ) → 10 ≤ n → n < 2 ^ 64 → 1 + decimal_digits (n / 10) ≤ 20
at_most_twenty n some small = omega (arith, one_more n some small, length-decimal-le 20 n (omega arith) (omega arith) small)

-- all three, for the code
pub ruleset digit_steps = (one_digit, one_more, at_most_twenty)
