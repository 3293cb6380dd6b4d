use Rattle.lg_accounts.specs.Meaning.Pages.{note_item}
use Rattle.lg_accounts.specs.Meaning.Values.{note_value}
use Rattle.lg_accounts.proofs.TextLaws.{written_more}
use Rattle.lg_accounts.proofs.page.put_items.Goals as goal

pub loop-note-preserved : goal.loop-note-preserved
loop-note-preserved c =
    written_more note_item note_value c.args.notes.now c.loop-note.note-index c.note-item.result _ _ _ c.loop-note-test.true c.note-item.is
    c.loop-note.invariant c.in_ok-put_item.ensures
