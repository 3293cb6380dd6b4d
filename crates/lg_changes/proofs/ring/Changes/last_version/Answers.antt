use Rattle.std.proofs.Common.{◌<◌, refl, sym}
use Rattle.std.specs.VecDeque.{deque_len}
use Rattle.lg_changes.proofs.KeptLaws.{last_is_kept}
use Rattle.lg_changes.proofs.ring.Changes.last_version.Goals as goal

pub returns-in-Some : goal.returns-in-Some
returns-in-Some c all has =
    let some : 0 < deque_len c.args.self.now.rows = c.in-Some.ensures.variant.0 refl in
    last_is_kept c.args.self.now all c.in-Some.change.now has some (sym c.in-Some.ensures.lookup)
