use Rattle.std.proofs.Common.{length, ◌==◌, ◌∙◌, ap}
use Rattle.lg_probe.specs.Meaning.Order.{OrderValue}
use Rattle.lg_probe.proofs.Parts.{part_count}
use Rattle.lg_probe.proofs.order.Order.is_empty.Goals as goal

pub returns : goal.returns
returns c =
    c.is_empty.ensures.empty ∙ ap (λ n. n == 0) (part_count c.self.invariant.names)
    ∙ ap (λ (o : OrderValue). length o.names == 0) c.self.view_is
