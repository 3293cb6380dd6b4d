use Rattle.std.proofs.Common.{rules}
use Rattle.std.proofs.lemmas.List.Sorted.{answers_always}
use Rattle.lg_recorder.specs.Meaning.Folders.{number_of_file}
use Rattle.lg_recorder.proofs.PieceLaws.{on_ok}
use Rattle.lg_recorder.proofs.disk.DiskFolderRecordFolder.list.Goals as goal

pub returns-clause-sorted : goal.returns-clause-sorted
returns-clause-sorted g c =
    on_ok c.map_err.result (c.sort_unstable_by_key.ensures.sorted number_of_file (answers_always _ _ _ (λ f a r k h. search rules)))
