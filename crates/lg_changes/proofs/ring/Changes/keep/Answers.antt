use Rattle.std.proofs.Common.{◌≡◌, ◌+◌, ◌<◌, ◌≤◌, length, ◌∙◌, arith}
use Rattle.std.specs.VecDeque.{deque_capacity, deque_len}
use Rattle.lg_changes.proofs.KeptLaws.{keeps_full}
use Rattle.lg_changes.proofs.ring.Changes.keep.Goals as goal

pub returns-in-Some : goal.returns-in-Some
returns-in-Some c all k =
    let before = c.args.self.now.rows in
    let popped = c.pop_front.new.self in
    let above : 1024 ≤ length before.items = omega (arith, k.counted, c.len.ensures, c.if-len-lt-MAX_CHANGES.false) in
    let few : length before.items ≤ 1024 = k.few in
    let fewer : deque_len popped + 1 ≡ deque_len before = c.in-Some.ensures.cases in
    let room : deque_capacity popped ≡ deque_capacity before = c.in-Some.ensures.capacity in
    let fits : deque_len popped < deque_capacity popped = omega (arith, few, fewer, room, k.counted, k.room) in
    keeps_full c.args.self.now _ all popped.items c.in-Some.oldest c.args.change.now k above
    c.in-Some.ensures.items (c.push-in-Some.ensures.items fits) (c.push-in-Some.ensures.len fits ∙ fewer)
    (c.push-in-Some.ensures.room fits ∙ room) c.max-self.ensures
