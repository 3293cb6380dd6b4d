use Rattle.std.proofs.Transfers.{starts_with_trans}
use Rattle.lg_lines.proofs.replies.put_forgot.Goals as goal

pub returns-in_err-put-clause-front : goal.returns-in_err-put-clause-front
returns-in_err-put-clause-front c = starts_with_trans _ _ _ c.put.ensures.front c.put_named.ensures.front

pub returns-clause-front : goal.returns-clause-front
returns-clause-front c = starts_with_trans _ _ _ c.put.ensures.front c.put_named.ensures.front
