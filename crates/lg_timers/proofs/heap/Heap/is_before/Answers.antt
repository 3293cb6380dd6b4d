use Rattle.std.proofs.Common.{◌<◌, length, get_or, arith}
use Rattle.lg_timers.specs.Support.Slots.{timer_at}
use Rattle.lg_timers.proofs.HeapLaws.{fires_alike}
use Rattle.lg_timers.proofs.SlotLaws.{timer_read}
use Rattle.lg_timers.proofs.heap.Heap.is_before.Goals as goal

pub returns-clause-before : goal.returns-clause-before
returns-clause-before g c =
    let timers = c.args.timers.now in
    let slots = c.args.self.now.slots in
    let first : get_or slots c.args.place 0 < length timers = omega (arith, c.requires.full, c.requires.placed.within c.args.place c.requires.place) in
    let second : get_or slots c.args.other 0 < length timers = omega (arith, c.requires.full, c.requires.placed.within c.args.other c.requires.other) in
    fires_alike c.is_before.result c.index-timers-from.result c.index-timers-from-2.result (timer_at timers slots c.args.place) (timer_at timers slots c.args.other) c.is_before.ensures.before
    (timer_read timers c.from.result (get_or slots c.args.place 0) c.index-timers-from.result c.from.ensures first c.index-timers-from.is)
    (timer_read timers c.from-2.result (get_or slots c.args.other 0) c.index-timers-from-2.result c.from-2.ensures second c.index-timers-from-2.is)
