use Rattle.std.proofs.Common.{arith}
use Rattle.lg_follow.proofs.LineLaws.{no_lines, lines_more}
use Rattle.lg_follow.proofs.lines.put_members.Goals as goal

pub loop-claim-init : goal.loop-claim-init
loop-claim-init c = no_lines c.args.moment c.args.text.now.items

pub loop-claim-preserved : goal.loop-claim-preserved
loop-claim-preserved c =
    lines_more c.args.moment c.args.records.now c.loop-claim.claim-index c.claim-item.result c.args.text.now.items c.loop-claim.text.items c.put_line.new.text.items (omega arith) c.claim-item.is
    c.loop-claim.invariant c.in_ok-put_line.ensures
