use Rattle.std.proofs.Common.{◌∙◌, ap}
use Rattle.lg_detector.specs.Meaning.Choice.{choice_by, first_body}
use Rattle.lg_detector.proofs.ChoiceLaws.{choice-gained}
use Rattle.lg_detector.proofs.reply.Reply.chosen.Goals as goal

pub returns-clause-gained : goal.returns-clause-gained
returns-clause-gained c = λ f e is. choice-gained c.args.self.now c.choice_by.result (c.choice_by.ensures ∙ ap (choice_by c.args.self.now.fired) (c.first_body.ensures ∙ ap first_body c.as_slice.ensures.value)) f e is
