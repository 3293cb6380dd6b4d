use Rattle.lg_answers.specs.Meaning.Metrics.{dropped_lines}
use Rattle.lg_answers.proofs.Writing.{written_twice}
use Rattle.lg_answers.proofs.metrics.put_dropped.Goals as goal

pub returns : goal.returns
unfolding dropped_lines
returns c = written_twice c.put_drops.result _ _ _ _ _ c.in_ok-put_head.ensures c.put_drops.ensures
