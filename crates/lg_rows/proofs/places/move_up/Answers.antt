use Rattle.std.proofs.Common.{◌+◌, ◌-◌, arith}
use Rattle.lg_rows.proofs.Moving.{rotated_up}
use Rattle.lg_rows.proofs.places.move_up.Goals as goal

pub returns : goal.returns
returns c =
    rotated_up c.args.places.now c.rotate_left.new.self c.args.from c.args.to (c.args.to + 1 - c.args.from)
    (omega (arith, c.requires.order)) c.requires.order c.requires.within c.rotate_left.ensures.after
