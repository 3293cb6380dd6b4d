use Rattle.std.proofs.Common.{◌≡◌, true, take}
use Rattle.lg_recorder.specs.Meaning.Folders.{begun, deleted, deleted_behind, held_in, listed}
use Rattle.lg_recorder.proofs.room.delete_each.Given as goal

-- the files so far are deleted
abbrev pub invariant-loop-file : goal.invariant-loop-file
invariant-loop-file g l =
    g.F.RecordFolder.tells ≡ true
    → record {
      gone : deleted (g.F.RecordFolder.past l.folder)
          ≡ deleted_behind (take l.file-index l.fn.files) (deleted (g.F.RecordFolder.past l.fn.folder));
      held_same : held_in (g.F.RecordFolder.past l.folder) ≡ held_in (g.F.RecordFolder.past l.fn.folder);
      listed_same : listed (g.F.RecordFolder.past l.folder) ≡ listed (g.F.RecordFolder.past l.fn.folder);
      begun_same : begun (g.F.RecordFolder.past l.folder) ≡ begun (g.F.RecordFolder.past l.fn.folder);
    }
