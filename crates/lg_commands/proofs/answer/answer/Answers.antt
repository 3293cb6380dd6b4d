use Rattle.std.proofs.Common.{◌≡◌, length, cond, arith}
use Rattle.lg_commands.specs.Meaning.Answering.{is_faulty}
use Rattle.lg_text.specs.declared.end.RunEnd.TheVariants.{Faulty}
use Rattle.lg_commands.proofs.AnswerLaws.{accepts_lines, answered_none, answered_more, answered_end, ended_faulty, ended_well}
use Rattle.lg_commands.proofs.answer.answer.Goals.{in-Done, in-Faulty}
use Rattle.lg_commands.proofs.answer.answer.Goals as goal

pub lines-init : goal.lines-init
lines-init c = rw c.new-text.ensures.items (answered_none c.args.name.now c.args.input.now c.in_ok-detector.detector c.in_ok-detector.ensures)

pub answer_line-requires-clause-accepts : goal.answer_line-requires-clause-accepts
answer_line-requires-clause-accepts c =
    let has = c.lines.invariant in
    accepts_lines c.args.name.now has.before c.lines.detector (omega (arith, has.few, c.requires)) has.after

pub lines-preserved : goal.lines-preserved
lines-preserved c =
    let faulty = is_faulty c.cut_line.result.0.now in
    let found = c.in_ok-answer_line.ensures.end in
    let ends : c.match-branch-4.end ≡ cond faulty Faulty c.lines.end = elim c.match-branch-4.branch [
      | in-Done w ↦ ended_well faulty _ _ _ found w.in-Done.is w.end-is
      | in-Faulty w ↦ ended_faulty faulty _ _ _ found w.in-Faulty.is w.end-is
    ] in
    answered_more _ _ _ _ _ _ _ _ _ _ _ c.lines.invariant c.cut_line.ensures.lines c.cut_line.ensures.shorter
    c.answer_line.ensures.after c.in_ok-answer_line.ensures.text ends

pub returns-clause-end : goal.returns-clause-end
returns-clause-end c =
    let none : length c.lines.rest.now ≡ 0 = grind arith in
    answered_end _ _ _ _ _ _ c.lines.invariant none
