use Rattle.lg_bit_set.proofs.BitLaws.{lowest_some, lowest_all}
use Rattle.lg_bit_set.proofs.word.lowest_bits.Goals as goal

pub returns-then-count-lt64 : goal.returns-then-count-lt64
returns-then-count-lt64 c = λ i within. lowest_some c.args.count i c.if-count-lt64.true

pub returns-else-count-lt64 : goal.returns-else-count-lt64
returns-else-count-lt64 c = λ i within. lowest_all c.args.count i within c.if-count-lt64.false
