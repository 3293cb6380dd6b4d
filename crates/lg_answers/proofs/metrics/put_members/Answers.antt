use Rattle.lg_answers.specs.Meaning.Metrics.{members_lines}
use Rattle.lg_answers.proofs.Writing.{written_twice}
use Rattle.lg_answers.proofs.metrics.put_members.Goals as goal

pub returns : goal.returns
unfolding members_lines
returns c = written_twice c.put_kinds.result _ _ _ _ _ c.in_ok-put_head.ensures c.put_kinds.ensures
