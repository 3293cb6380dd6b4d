use Rattle.std.proofs.Transfers.{starts_with_trans}
use Rattle.lg_lines.proofs.records.put_named.Goals as goal

pub returns-in_err-put-2-clause-front : goal.returns-in_err-put-2-clause-front
returns-in_err-put-2-clause-front c = starts_with_trans _ _ _ c.put-2.ensures.front c.put.ensures.front

pub returns-clause-front : goal.returns-clause-front
returns-clause-front c = starts_with_trans _ _ _ c.put-2.ensures.front c.put.ensures.front
