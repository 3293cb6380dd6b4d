use Rattle.std.proofs.Common.{◌≡◌, length, arith}
use Rattle.lg_replay.proofs.RecordedLaws.{recorded_all, recorded_more}
use Rattle.lg_replay.proofs.lines.put_recorded.Goals as goal

pub lines-preserved : goal.lines-preserved
lines-preserved c = recorded_more _ _ _ _ _ _ c.cut_line.ensures.lines c.lines.invariant c.in_ok-put_recorded_line.ensures

pub returns : goal.returns
returns c =
    let none : length c.lines.rest.now ≡ 0 = grind (arith, c.is_empty.ensures) in
    recorded_all _ _ _ none c.lines.invariant
