use Rattle.lg_accounts.specs.Meaning.Values.{note_value}
use Rattle.lg_accounts.proofs.VerdictLaws.{first_at_step, none_with_step}
use Rattle.lg_accounts.proofs.verdict.first_of_note.Goals as goal

pub returns-in-Some : goal.returns-in-Some
returns-in-Some c =
    first_at_step (note_value c.args.note.now) c.args.note.now.steps.items c.deref-step-items.result.now c.loop-step.step-index c.step-item.result
    c.verdict_of_step.result c.in-Some.verdict c.deref-step-items.ensures.value c.loop-step-test.true c.step-item.is c.verdict_of_step.ensures
    c.in-Some.is c.loop-step.invariant

pub loop-step-preserved : goal.loop-step-preserved
loop-step-preserved c =
    none_with_step (note_value c.args.note.now) c.args.note.now.steps.items c.deref-step-items.result.now c.loop-step.step-index c.step-item.result
    c.verdict_of_step.result c.deref-step-items.ensures.value c.loop-step-test.true c.step-item.is c.verdict_of_step.ensures c.in_default.is c.loop-step.invariant
