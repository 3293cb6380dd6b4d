use Rattle.std.proofs.Common.{◌+◌, ◌-◌, arith}
use Rattle.lg_rows.proofs.Moving.{rotated_down}
use Rattle.lg_rows.proofs.places.move_down.Goals as goal

pub returns : goal.returns
returns c =
    rotated_down c.args.places.now c.rotate_right.new.self c.args.from c.args.to (c.args.from + 1 - c.args.to)
    (omega (arith, c.requires.order)) c.requires.order c.requires.within c.rotate_right.ensures.after
