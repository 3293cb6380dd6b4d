use Rattle.std.proofs.Common.{sym, subst}
use Rattle.lg_probe.specs.Support.Helpers.{AreOfRow}
use Rattle.lg_probe.proofs.Picking.{of_row}
use Rattle.lg_probe.proofs.order.Order.pick_any.Goals as goal

pub pick_all-requires-clause-numbers : goal.pick_all-requires-clause-numbers
pick_all-requires-clause-numbers c =
    subst (AreOfRow c.self.inside.joined) (sym c.as_slice.ensures.value) (of_row c.self.invariant.names)
