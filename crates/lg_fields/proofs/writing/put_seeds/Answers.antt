use Rattle.std.proofs.Transfers.{starts_with_of_append, starts_with_trans}
use Rattle.lg_fields.proofs.writing.put_seeds.Goals as goal

pub returns-in_err-put_seed-clause-front : goal.returns-in_err-put_seed-clause-front
returns-in_err-put_seed-clause-front c =
    starts_with_trans _ _ _ c.put_seed.ensures.front
    (starts_with_trans _ _ _ (starts_with_of_append _ _ _ c.loop-seed.invariant) c.put_count.ensures.front)
