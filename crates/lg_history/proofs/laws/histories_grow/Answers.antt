use Rattle.std.proofs.Common.{refl}
use Rattle.lg_history.proofs.Legal.{grown}
use Rattle.lg_history.proofs.laws.histories_grow.Goals as goal

-- src/laws.rt:12:1
pub returns-clause-grows : goal.returns-clause-grows
returns-clause-grows c places seat h e legal shut few low high = grown places seat h e _ legal shut few low high refl
