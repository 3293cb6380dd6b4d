use Rattle.std.proofs.Common.{◌∙◌, refl, sym}
use Rattle.lg_recorder.proofs.FolderLaws.{begun_deleted, deleted_next, held_deleted, listed_deleted, no_file_behind}
use Rattle.lg_recorder.proofs.room.delete_each.Goals as goal

pub loop-file-init : goal.loop-file-init
loop-file-init g c = λ told. record { gone = sym (no_file_behind _); held_same = refl; listed_same = refl; begun_same = refl }

pub loop-file-preserved : goal.loop-file-preserved
loop-file-preserved g c = λ told.
    let so = c.loop-file.invariant told in
    let is = c.in_ok-delete.ensures told in
    record {
      gone = deleted_next _ c.args.files.now c.loop-file.file-index _ _ _ c.loop-file-test.true is so.gone;
      held_same = held_deleted _ _ is ∙ so.held_same;
      listed_same = listed_deleted _ _ is ∙ so.listed_same;
      begun_same = begun_deleted _ _ is ∙ so.begun_same;
    }

pub returns-in_err-delete-clause-held : goal.returns-in_err-delete-clause-held
returns-in_err-delete-clause-held g c = λ told. held_deleted _ _ (c.in_err-delete.ensures told) ∙ (c.loop-file.invariant told).held_same

pub returns-in_err-delete-clause-listed : goal.returns-in_err-delete-clause-listed
returns-in_err-delete-clause-listed g c = λ told. listed_deleted _ _ (c.in_err-delete.ensures told) ∙ (c.loop-file.invariant told).listed_same

pub returns-in_err-delete-clause-begun : goal.returns-in_err-delete-clause-begun
returns-in_err-delete-clause-begun g c = λ told. begun_deleted _ _ (c.in_err-delete.ensures told) ∙ (c.loop-file.invariant told).begun_same
