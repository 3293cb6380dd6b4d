use Rattle.lg_recorder.proofs.FolderLaws.{held_closed}
use Rattle.lg_recorder.proofs.recorder.Recorder.close.Goals as goal

pub returns-then-is_some-clause-held : goal.returns-then-is_some-clause-held
returns-then-is_some-clause-held g c = λ told. held_closed _ _ (c.close.ensures told)
