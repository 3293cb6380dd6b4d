use Rattle.std.proofs.Common.{Option, ◌∙◌, ap, sym}
use Rattle.std.specs.Option.{option_or}
use Rattle.lg_accounts.specs.declared.verdict.MemberVerdict.{MemberVerdict}
use Rattle.lg_accounts.specs.Meaning.Values.{note_value}
use Rattle.lg_accounts.proofs.VerdictLaws.{last_with_step}
use Rattle.lg_accounts.proofs.verdict.last_of_note.Goals as goal
use Rattle.lg_accounts.proofs.verdict.last_of_note.Goals.{in-Some, in_default}

pub loop-step-preserved : goal.loop-step-preserved
loop-step-preserved c =
    let more =
    last_with_step (note_value c.args.note.now) c.args.note.now.steps.items c.deref-step-items.result.now c.loop-step.step-index c.step-item.result
    c.args.earlier c.loop-step.last c.verdict_of_step.result c.deref-step-items.ensures.value c.loop-step-test.true c.step-item.is
    c.verdict_of_step.ensures c.loop-step.invariant in
    elim c.match-verdict_of_step.branch [
      | in-Some w ↦ w.last-is ∙ ap (λ (found : Option MemberVerdict). option_or found c.loop-step.last) (sym w.in-Some.is) ∙ more
      | in_default w ↦ w.last-is ∙ ap (λ (found : Option MemberVerdict). option_or found c.loop-step.last) (sym w.in_default.is) ∙ more
    ]
