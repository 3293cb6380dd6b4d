use Rattle.std.proofs.Transfers.{starts_with_trans}
use Rattle.lg_lines.proofs.records.put_numbered.Goals as goal

pub returns-in_err-put_number-clause-front : goal.returns-in_err-put_number-clause-front
returns-in_err-put_number-clause-front c = starts_with_trans _ _ _ c.put_number.ensures.front c.put.ensures.front

pub returns-clause-front : goal.returns-clause-front
returns-clause-front c = starts_with_trans _ _ _ c.put_number.ensures.front c.put.ensures.front
