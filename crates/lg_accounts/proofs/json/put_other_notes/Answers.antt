use Rattle.lg_accounts.specs.Meaning.Json.{later_value, note_json}
use Rattle.lg_accounts.specs.Meaning.Values.{note_value}
use Rattle.lg_accounts.proofs.TextLaws.{behind_comma_written, written_more}
use Rattle.lg_accounts.proofs.json.put_other_notes.Goals as goal

pub loop-note-preserved : goal.loop-note-preserved
loop-note-preserved c =
    written_more (later_value note_json) note_value c.args.others.now c.loop-note.note-index c.note-item.result _ _ _ c.loop-note-test.true c.note-item.is
    c.loop-note.invariant
    (behind_comma_written _ _ _ _ c.in_ok-push_str.ensures.bytes c.in_ok-put_note.ensures)
