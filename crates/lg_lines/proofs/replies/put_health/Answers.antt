use Rattle.std.proofs.Transfers.{starts_with_trans}
use Rattle.lg_lines.proofs.replies.put_health.Goals as goal

pub returns-in_err-put_numbered-2-clause-front : goal.returns-in_err-put_numbered-2-clause-front
returns-in_err-put_numbered-2-clause-front c = starts_with_trans _ _ _ c.put_numbered-2.ensures.front c.put_numbered.ensures.front

pub returns-in_err-put_numbered-3-clause-front : goal.returns-in_err-put_numbered-3-clause-front
returns-in_err-put_numbered-3-clause-front c = starts_with_trans _ _ _ c.put_numbered-3.ensures.front (starts_with_trans _ _ _ c.put_numbered-2.ensures.front c.put_numbered.ensures.front)

pub returns-clause-front : goal.returns-clause-front
returns-clause-front c = starts_with_trans _ _ _ c.put_numbered-3.ensures.front (starts_with_trans _ _ _ c.put_numbered-2.ensures.front c.put_numbered.ensures.front)
