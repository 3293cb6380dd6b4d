use Rattle.std.proofs.Common.{◌∙◌, ap}
use Rattle.lg_accounts.specs.declared.account.Note.{Note}
use Rattle.lg_accounts.proofs.PictureLaws.{last_at}
use Rattle.lg_accounts.proofs.picture.moment_of_last.Goals as goal

pub returns-in-len1-up : goal.returns-in-len1-up
returns-in-len1-up c =
    ap (λ (note : Note). note.moment) c.note-item.is ∙ last_at c.args.notes.now c.note-item.result c.in-len1-up.len_at_least
