use Rattle.std.proofs.Common.{◌∙◌}
use Rattle.lg_recorder.proofs.FolderLaws.{held_closed, held_deleted}
use Rattle.lg_recorder.proofs.recorder.abandon.Goals as goal

pub returns-then-entries-gt0 : goal.returns-then-entries-gt0
returns-then-entries-gt0 g c = λ told. held_closed _ _ (c.close.ensures told)

pub returns-then-file : goal.returns-then-file
returns-then-file g c = λ told. held_deleted _ _ (c.delete.ensures told) ∙ held_closed _ _ (c.close.ensures told)

pub returns-else-file : goal.returns-else-file
returns-else-file g c = λ told. held_closed _ _ (c.close.ensures told)
