use Rattle.std.proofs.Transfers.{starts_with_of_append, starts_with_trans}
use Rattle.lg_lines.proofs.records.put_records.Goals as goal

pub returns-in_err-put_record_line-clause-front : goal.returns-in_err-put_record_line-clause-front
returns-in_err-put_record_line-clause-front c = starts_with_trans _ _ _ c.put_record_line.ensures.front (starts_with_of_append _ _ _ c.loop-claim.invariant)
