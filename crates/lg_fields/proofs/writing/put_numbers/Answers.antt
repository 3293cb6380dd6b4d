use Rattle.std.proofs.Transfers.{starts_with_of_append, starts_with_trans}
use Rattle.lg_fields.proofs.writing.put_numbers.Goals as goal

pub returns-in_err-put_count-clause-front : goal.returns-in_err-put_count-clause-front
returns-in_err-put_count-clause-front c = starts_with_trans _ _ _ c.put_count.ensures.front (starts_with_of_append _ _ _ c.loop-key.invariant)
