use Rattle.std.proofs.Common.{◌≡◌, None, map, take}
use Rattle.std.specs.List.{last_or}
use Rattle.lg_accounts.specs.Meaning.Values.{note_value}
use Rattle.lg_accounts.specs.Meaning.Verdicts.{verdicts}
use Rattle.lg_accounts.proofs.account.Account.verdict.Given as goal

-- the last verdict of the entries so far
abbrev pub invariant-loop-note : goal.invariant-loop-note
invariant-loop-note l = l.last ≡ last_or None (verdicts (map note_value (take l.note-index l.self.notes.items)))
