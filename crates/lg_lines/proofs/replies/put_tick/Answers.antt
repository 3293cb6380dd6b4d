use Rattle.std.proofs.Transfers.{starts_with_trans}
use Rattle.lg_lines.proofs.replies.put_tick.Goals as goal

pub returns-in_err-put-3-clause-front : goal.returns-in_err-put-3-clause-front
returns-in_err-put-3-clause-front c = starts_with_trans _ _ _ c.put-3.ensures.front c.put-2.ensures.front

pub returns-in_err-put_subject-clause-front : goal.returns-in_err-put_subject-clause-front
returns-in_err-put_subject-clause-front c = starts_with_trans _ _ _ c.put_subject.ensures.front (starts_with_trans _ _ _ c.put-3.ensures.front c.put-2.ensures.front)

pub returns-in_err-put-4-clause-front : goal.returns-in_err-put-4-clause-front
returns-in_err-put-4-clause-front c = starts_with_trans _ _ _ c.put-4.ensures.front (starts_with_trans _ _ _ c.put_subject.ensures.front (starts_with_trans _ _ _ c.put-3.ensures.front c.put-2.ensures.front))

pub returns-clause-front : goal.returns-clause-front
returns-clause-front c = starts_with_trans _ _ _ c.put-4.ensures.front (starts_with_trans _ _ _ c.put_subject.ensures.front (starts_with_trans _ _ _ c.put-3.ensures.front c.put-2.ensures.front))
