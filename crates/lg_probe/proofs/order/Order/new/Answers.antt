use Rattle.std.proofs.Common.{[], refl}
use Rattle.lg_probe.specs.Meaning.Order.{order_after}
use Rattle.lg_probe.specs.Support.Order.{Keeps}
use Rattle.lg_probe.proofs.Keeping.{changed, kept, kept_is, kept_first}
use Rattle.lg_probe.proofs.order.Order.new.Goals as goal

first : (c : goal.After-new-3) → Keeps (order_after []) c.new.result.items c.new-2.result c.new-3.result
first c = changed refl c.new.ensures c.new-2.ensures c.new-3.ensures kept_first

pub invariant_of-result : goal.invariant_of-result
invariant_of-result c = kept (first c)

pub returns : goal.returns
returns c = kept_is (first c)
