use Rattle.std.proofs.Common.{ap, map}
use Rattle.std.specs.List.{flat_map}
use Rattle.lg_accounts.specs.declared.picture.ShownTime.{ShownTime}
use Rattle.lg_accounts.specs.Meaning.Pages.{note_marks, picture_marks}
use Rattle.lg_accounts.specs.Meaning.Values.{note_value}
use Rattle.lg_accounts.proofs.TextLaws.{written_as}
use Rattle.lg_accounts.proofs.picture.put_picture_marks.Goals as goal

pub returns : goal.returns
unfolding picture_marks
returns c =
    written_as c.put_marks.result _ _ _ _ c.put_marks.ensures
    (ap (λ (time : ShownTime). flat_map (note_marks time) (map note_value c.args.notes.now)) c.time_of.ensures)
