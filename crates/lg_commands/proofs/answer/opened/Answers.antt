use Rattle.std.proofs.Common.{[], ◌∷◌, ap, ◌∙◌}
use Rattle.lg_detector.specs.declared.event.Event.{Event}
use Rattle.lg_detector.specs.Support.Step.{state_after}
use Rattle.lg_commands.proofs.AnswerLaws.{opens_with_defaults}
use Rattle.lg_commands.proofs.answer.opened.Goals as goal

pub step-requires : goal.step-requires
step-requires c = rw (c.in_ok-detector.ensures, c.open_event.ensures) (opens_with_defaults c.args.name.now)

pub returns : goal.returns
returns c = c.step.ensures.after [] c.in_ok-detector.ensures ∙ ap (λ (e : Event). state_after (e ∷ [])) c.open_event.ensures
