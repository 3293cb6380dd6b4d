use Rattle.lg_accounts.proofs.VerdictLaws.{last_with_note}
use Rattle.lg_accounts.proofs.account.Account.verdict.Goals as goal

pub loop-note-preserved : goal.loop-note-preserved
loop-note-preserved c =
    last_with_note c.args.self.now.notes.items c.deref-note-items.result.now c.loop-note.note-index c.note-item.result
    c.loop-note.last c.last_of_note-last.result c.deref-note-items.ensures.value c.loop-note-test.true c.note-item.is c.last_of_note-last.ensures c.loop-note.invariant
