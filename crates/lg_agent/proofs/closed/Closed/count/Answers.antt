use Rattle.std.proofs.Common.{arith, length-append}
use Rattle.lg_detector.proofs.AcceptedLists.{accepted_few}
use Rattle.lg_history.specs.Meaning.History.{events}
use Rattle.lg_history.proofs.Legal.{length-events}
use Rattle.lg_agent.proofs.closed.Closed.count.Goals as goal

pub overflow_add-result : goal.overflow_add-result
overflow_add-result c =
    let well = c.self.invariant in
    let few = accepted_few _ well.accepted in
    let both = length-append well.past (events c.self.inside.entries.items) in
    let count = length-events c.self.inside.entries.items in
    let base = well.base in
    omega (arith, few, both, count, base, c.len.ensures)
