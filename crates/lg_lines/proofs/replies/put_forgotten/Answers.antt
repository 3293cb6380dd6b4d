use Rattle.std.proofs.Transfers.{starts_with_of_append, starts_with_trans}
use Rattle.lg_lines.proofs.replies.put_forgotten.Goals as goal

pub returns-in_err-put_forgot-clause-front : goal.returns-in_err-put_forgot-clause-front
returns-in_err-put_forgot-clause-front c = starts_with_trans _ _ _ c.put_forgot.ensures.front (starts_with_of_append _ _ _ c.loop-name.invariant)
