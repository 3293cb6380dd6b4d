use Rattle.lg_accounts.specs.Meaning.Verdicts.{first_verdict_of}
use Rattle.lg_accounts.proofs.VerdictLaws.{first_at_note, none_with_note}
use Rattle.lg_accounts.proofs.account.Account.first_verdict.Goals as goal

pub returns-in-Some : goal.returns-in-Some
unfolding first_verdict_of
returns-in-Some c =
    first_at_note c.args.self.now.notes.items c.deref-note-items.result.now c.loop-note.note-index c.note-item.result
    c.first_of_note.result c.in-Some.verdict c.deref-note-items.ensures.value c.loop-note-test.true c.note-item.is c.first_of_note.ensures
    c.in-Some.is c.loop-note.invariant

pub loop-note-preserved : goal.loop-note-preserved
loop-note-preserved c =
    none_with_note c.args.self.now.notes.items c.deref-note-items.result.now c.loop-note.note-index c.note-item.result
    c.first_of_note.result c.deref-note-items.ensures.value c.loop-note-test.true c.note-item.is c.first_of_note.ensures c.in_default.is c.loop-note.invariant
