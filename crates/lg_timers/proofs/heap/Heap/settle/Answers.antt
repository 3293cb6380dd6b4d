use Rattle.std.proofs.Common.{sym, ◌∙◌}
use Rattle.lg_timers.specs.Support.Slots.{timer_at}
use Rattle.lg_timers.proofs.HeapLaws.{settle_up}
use Rattle.lg_timers.proofs.heap.Heap.settle.Goals as goal

pub sift_up-requires-clause-above : goal.sift_up-requires-clause-above
sift_up-requires-clause-above g c =
    settle_up (timer_at c.args.timers.now c.args.self.now.slots) c.args.self.now.count c.args.place c.requires.around c.if-place-gt0.true (sym c.is_before.ensures.before ∙ c.if-is_before.true)
