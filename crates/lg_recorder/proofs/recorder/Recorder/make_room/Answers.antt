use Rattle.std.proofs.Common.{◌∙◌, refl, sym}
use Rattle.lg_recorder.proofs.FolderLaws.{begun_listed, held_listed, makes_room}
use Rattle.lg_recorder.proofs.recorder.Recorder.make_room.Goals as goal

pub returns-in_err-list-clause-held : goal.returns-in_err-list-clause-held
returns-in_err-list-clause-held g c = λ told. held_listed _ _ (c.in_err-list.ensures.told told)

pub returns-in_err-list-clause-begun : goal.returns-in_err-list-clause-begun
returns-in_err-list-clause-begun g c = λ told. begun_listed _ _ (c.in_err-list.ensures.told told)

pub returns-in_err-delete_each-clause-held : goal.returns-in_err-delete_each-clause-held
returns-in_err-delete_each-clause-held g c = λ told. c.in_err-delete_each.ensures.held told ∙ held_listed _ _ (c.in_ok-list.ensures.told told)

pub returns-in_err-delete_each-clause-begun : goal.returns-in_err-delete_each-clause-begun
returns-in_err-delete_each-clause-begun g c = λ told. c.in_err-delete_each.ensures.begun told ∙ begun_listed _ _ (c.in_ok-list.ensures.told told)

pub returns-then-number-gt-MAX_FILE_NUMBER-clause-held : goal.returns-then-number-gt-MAX_FILE_NUMBER-clause-held
returns-then-number-gt-MAX_FILE_NUMBER-clause-held g c = λ told. c.in_ok-delete_each.ensures.held told ∙ held_listed _ _ (c.in_ok-list.ensures.told told)

pub returns-then-number-gt-MAX_FILE_NUMBER-clause-begun : goal.returns-then-number-gt-MAX_FILE_NUMBER-clause-begun
returns-then-number-gt-MAX_FILE_NUMBER-clause-begun g c = λ told. c.in_ok-delete_each.ensures.begun told ∙ begun_listed _ _ (c.in_ok-list.ensures.told told)

pub returns-clause-held : goal.returns-clause-held
returns-clause-held g c = λ told. c.in_ok-delete_each.ensures.held told ∙ held_listed _ _ (c.in_ok-list.ensures.told told)

pub returns-clause-begun : goal.returns-clause-begun
returns-clause-begun g c = λ told. c.in_ok-delete_each.ensures.begun told ∙ begun_listed _ _ (c.in_ok-list.ensures.told told)

pub returns-clause-made : goal.returns-clause-made
returns-clause-made g c = λ told.
    makes_room c.args.self.now.room c.excess-count.result c.as_slice-files.result.now _ (g.F.RecordFolder.past c.args.folder.now) (g.F.RecordFolder.past c.list.new.self)
    (g.F.RecordFolder.past c.delete_each.new.folder) (c.in_ok-list.ensures.told told) (sym c.as_slice-files.ensures.value) c.excess-count.ensures refl
    (c.in_ok-delete_each.ensures.deleted told) (c.in_ok-delete_each.ensures.listed told)
