use Rattle.lg_timers.proofs.SiftLaws.{exchanged-swap, exchanged-placed}
use Rattle.lg_timers.proofs.heap.Heap.exchange.Goals as goal

pub returns-clause-placed : goal.returns-clause-placed
returns-clause-placed c =
    exchanged-placed c.args.self.now.slots c.args.self.now.places c.put.new.self.slots c.put.new.self.places c.put-2.new.self.slots c.put-2.new.self.places c.args.first c.args.second c.requires.placed c.requires.first c.requires.second
    c.put.ensures.slots c.put-2.ensures.slots c.put.ensures.places c.put-2.ensures.places

pub returns-clause-swapped : goal.returns-clause-swapped
returns-clause-swapped c =
    exchanged-swap c.args.self.now.slots c.args.self.now.places c.put.new.self.slots c.put.new.self.places c.put-2.new.self.slots c.put-2.new.self.places c.args.first c.args.second c.requires.placed c.requires.first c.requires.second
    c.put.ensures.slots c.put-2.ensures.slots
