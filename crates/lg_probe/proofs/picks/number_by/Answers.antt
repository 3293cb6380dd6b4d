use Rattle.std.proofs.Common.{sym, ◌%◌, arith}
use Rattle.lg_bit_set.specs.Meaning.Flags.{count_set}
use Rattle.lg_bit_set.proofs.NumberLaws.{nth_number-past}
use Rattle.lg_probe.proofs.picks.number_by.Goals as goal

pub returns-then-count-eq0 : goal.returns-then-count-eq0
returns-then-count-eq0 c =
    sym (nth_number-past c.args.numbers.now (c.args.word % count_set c.args.numbers.now)
    (omega (arith, c.len-count.ensures.count, c.if-count-eq0.true)))
