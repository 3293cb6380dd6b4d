use Rattle.std.proofs.Common.{◌≤◌, ◌<◌, ◌^◌, arith}
use Rattle.std.proofs.lemmas.Grind.{common_steps}
use Rattle.lg_fields.proofs.Numbers.{count_ends, count_goes_on}
use Rattle.lg_fields.proofs.writing.+put_count.Goals as goal

pub returns-then-n-lt128-clause-put : goal.returns-then-n-lt128-clause-put
returns-then-n-lt128-clause-put t c =
    let low : c.args.n < 128 = omega arith in
    rw (count_ends c.args.n low) (grind (arith, common_steps))

pub returns-clause-put : goal.returns-clause-put
returns-clause-put t c =
    let high : 128 ≤ c.args.n = omega arith in
    let fits : c.args.n < 2 ^ 64 = omega arith in
    rw (count_goes_on c.args.n high fits) (grind (arith, common_steps))
