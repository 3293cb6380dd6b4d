use Rattle.std.proofs.Common.{◌≡◌, [], map, take}
use Rattle.lg_accounts.specs.Meaning.Values.{note_value}
use Rattle.lg_accounts.specs.Meaning.Verdicts.{verdicts}
use Rattle.lg_accounts.proofs.account.Account.first_verdict.Given as goal

-- the entries so far have no verdict
abbrev pub invariant-loop-note : goal.invariant-loop-note
invariant-loop-note l = verdicts (map note_value (take l.note-index l.self.notes.items)) ≡ []
