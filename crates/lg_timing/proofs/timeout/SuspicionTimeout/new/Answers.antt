use Rattle.std.proofs.Common.{arith}
use Rattle.lg_timing.proofs.TimeoutLemmas.{limited, has_timeouts}
use Rattle.lg_timing.specs.Meaning.Timeouts.{range_of}
use Rattle.lg_timing.proofs.timeout.SuspicionTimeout.new.Goals as goal

pub overflow_mul-min_ms : goal.overflow_mul-min_ms
overflow_mul-min_ms c =
    rw c.log10_thousandths.ensures (let l = limited c.args.live c.args.config.now c.requires.checked in omega (arith, l.factor))

pub overflow_mul-min_ms-2 : goal.overflow_mul-min_ms-2
overflow_mul-min_ms-2 c =
    rw c.log10_thousandths.ensures (let l = limited c.args.live c.args.config.now c.requires.checked in omega (arith, l.product))

pub overflow_mul-result : goal.overflow_mul-result
overflow_mul-result c =
    rw c.log10_thousandths.ensures (let l = limited c.args.live c.args.config.now c.requires.checked in omega (arith, l.greatest))

pub invariant_of-result : goal.invariant_of-result
unfolding range_of
invariant_of-result c =
    rw (c.log10_thousandths.ensures, c.confirmations_among.ensures) (has_timeouts c.args.live c.args.config.now c.requires.checked)

pub returns : goal.returns
unfolding range_of
returns c = cc (c.log10_thousandths.ensures, c.confirmations_among.ensures)
