use Rattle.std.proofs.Common.{◌+◌, ◌*◌, sym, ◌∙◌, arith}
use Rattle.lg_timers.specs.Support.Slots.{timer_at}
use Rattle.lg_timers.proofs.HeapLaws.{first_right}
use Rattle.lg_timers.proofs.heap.Heap.first_below.Goals as goal

pub returns-then-is_before-clause-first : goal.returns-then-is_before-clause-first
returns-then-is_before-clause-first g c =
    first_right (timer_at c.args.timers.now c.args.self.now.slots) c.args.self.now.count c.args.place (2 * c.args.place + 1 + 1) (omega arith) c.if-right-self.true (sym c.is_before.ensures.before ∙ c.if-is_before.true)
