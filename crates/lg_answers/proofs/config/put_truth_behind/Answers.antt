use Rattle.lg_answers.proofs.Writing.{written_twice}
use Rattle.lg_answers.proofs.config.put_truth_behind.Goals as goal

pub returns : goal.returns
returns c = written_twice c.put_truth.result _ _ _ _ _ c.in_ok-push_str.ensures.bytes c.put_truth.ensures
