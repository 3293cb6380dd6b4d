use Rattle.std.proofs.Common.{arith}
use Rattle.lg_follow.proofs.LineLaws.{none_changed, changed_more}
use Rattle.lg_follow.proofs.lines.put_changes.Goals as goal

pub loop-change-init : goal.loop-change-init
loop-change-init c = none_changed c.args.text.now.items

pub loop-change-preserved : goal.loop-change-preserved
loop-change-preserved c =
    changed_more c.args.changes.now c.loop-change.change-index c.change-item.result c.args.text.now.items c.loop-change.text.items c.put_change.new.text.items (omega arith) c.change-item.is
    c.loop-change.invariant c.in_ok-put_change.ensures
