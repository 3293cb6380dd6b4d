use Rattle.lg_fields.proofs.Chunks.{chunk_again, chunk_takes}
use Rattle.lg_fields.proofs.laws.chunks_read_back.Goals as goal

pub returns-clause-again : goal.returns-clause-again
returns-clause-again c = chunk_again

pub returns-clause-takes : goal.returns-clause-takes
returns-clause-takes c = chunk_takes
