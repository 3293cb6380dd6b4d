use Rattle.std.proofs.Common.{◌≡◌, length, ap, ◌∙◌, arith}
use Rattle.lg_bit_set.specs.Meaning.Flags.{count_set}
use Rattle.lg_suspicion.proofs.KnownAccusers.{once-count}
use Rattle.lg_suspicion.proofs.suspicion.SuspicionDefault.default.Goals as goal

pub invariant_of-result : goal.invariant_of-result
invariant_of-result c =
    let none : count_set c.new.result ≡ 0 = ap count_set c.new.ensures ∙ once-count in
    let one = ap length c.push.ensures.items in
    let before = ap length c.new-named.ensures in
    record { some = omega (arith, none, one, before); counted = omega (arith, none, one, before) }
