use Rattle.std.proofs.Common.{◌∙◌}
use Rattle.lg_timers.specs.Support.Singles.{with_singles}
use Rattle.lg_timers.proofs.SinglesLaws.{timers-nil, singles-nil}
use Rattle.lg_timers.proofs.timers.Timers.new.Goals as goal

pub invariant_of-result : goal.invariant_of-result
invariant_of-result c = timers-nil c.new.result c.new-2.result c.new.ensures c.new-2.ensures

pub returns : goal.returns
returns c = (λ i. with_singles (c.new.ensures i) (c.new-2.ensures i)) ∙ singles-nil
