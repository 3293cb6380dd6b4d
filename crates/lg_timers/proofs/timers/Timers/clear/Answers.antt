use Rattle.std.proofs.Common.{◌∙◌}
use Rattle.lg_timers.specs.Support.Singles.{with_singles}
use Rattle.lg_timers.proofs.SinglesLaws.{timers-nil, singles-nil}
use Rattle.lg_timers.proofs.timers.Timers.clear.Goals as goal

pub invariant_of-self : goal.invariant_of-self
invariant_of-self c = timers-nil c.new-self-inside.result c.clear.new.self c.new-self-inside.ensures c.clear.ensures

pub returns : goal.returns
returns c = (λ i. with_singles (c.new-self-inside.ensures i) (c.clear.ensures i)) ∙ singles-nil
