use Rattle.std.proofs.Common.{[], ap, ◌∙◌}
use Rattle.lg_c.specs.Meaning.Replies.{c_reply}
use Rattle.lg_c.proofs.advance.begin.Goals as goal

pub returns-clause-state : goal.returns-clause-state
returns-clause-state c = λ _. c.step.ensures.after [] c.requires

pub returns-clause-reply : goal.returns-clause-reply
returns-clause-reply c = λ _. c.write.ensures ∙ ap (λ r. c_reply r c.args.out.now) (c.step.ensures.answer [] c.requires)
