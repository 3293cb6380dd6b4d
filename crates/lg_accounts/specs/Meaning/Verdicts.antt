-- The verdicts of an account: the changes of the member's record to suspect, failed or left.
use Rattle.std.specs.Prelude.{Bool, true, false, List, [], ◌∷◌, Option, Some, None, if◌then◌else◌}
use Rattle.std.specs.List.{filter_map, flat_map, last_or}
use Rattle.lg_rules.specs.declared.claim.Claim.{Claim}
use Rattle.lg_rules.specs.declared.claim.Status.{Status}
use Rattle.lg_rules.specs.declared.claim.Status.TheVariants.{Alive, Suspect, Failed, Left}
use Rattle.lg_accounts.specs.declared.step.NoteStep.{NoteStep}
use Rattle.lg_accounts.specs.declared.step.NoteStep.TheVariants.{Changed}
use Rattle.lg_accounts.specs.declared.verdict.MemberVerdict.{MemberVerdict}
use Rattle.lg_accounts.specs.Meaning.Values.{AccountValue, NoteValue}

-- whether a change to a status is a verdict: to any but alive
abbrev pub is_against : Status → Bool
is_against Alive = false
is_against (Suspect accuser) = true
is_against Failed = true
is_against Left = true

-- the verdict by a record that changed in an entry, if it is one
abbrev pub verdict_of_record : NoteValue → Claim → Option MemberVerdict
verdict_of_record note c =
    if is_against c.status
    then Some record { moment = note.moment; wall_ms = note.wall_ms; teller = note.teller; record_after = c }
    else None

-- the verdict by a step of an entry, if it is one
abbrev pub verdict_of_step : NoteValue → NoteStep → Option MemberVerdict
verdict_of_step note (Changed c) = verdict_of_record note c
verdict_of_step note step = None

-- the verdicts of an entry, and of several
abbrev pub note_verdicts : NoteValue → List MemberVerdict
note_verdicts note = filter_map (verdict_of_step note) note.steps

abbrev pub verdicts : List NoteValue → List MemberVerdict
verdicts notes = flat_map note_verdicts notes

-- the first of some verdicts
abbrev pub first_verdict : List MemberVerdict → Option MemberVerdict
first_verdict [] = None
first_verdict (verdict ∷ later) = Some verdict

-- The verdict of an account is its last. By its first it is chosen which accounts came too late to be told.
unfoldable pub verdict_of : AccountValue → Option MemberVerdict
verdict_of account = last_or None (verdicts account.notes)

unfoldable pub first_verdict_of : AccountValue → Option MemberVerdict
first_verdict_of account = first_verdict (verdicts account.notes)
