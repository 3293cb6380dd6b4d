-- Accounts of a member as text: a heading, a line for each entry that tells something, and a last line if some of the
-- past is missing.
use Rattle.std.specs.Prelude.{ℕ, Bool, true, false, List, [], ◌∷◌, ◌++◌, codes, decimal, map, if◌then◌else◌}
use Rattle.std.specs.Prelude.{Option, Some, None}
use Rattle.std.specs.List.{flat_map}
use Rattle.lg_rules.specs.declared.claim.Status.{Status}
use Rattle.lg_rules.specs.declared.claim.Status.TheVariants.{Alive, Suspect, Failed, Left}
use Rattle.lg_text.specs.Meaning.Lines.{newline}
use Rattle.lg_accounts.specs.declared.account.Account.{Account}
use Rattle.lg_accounts.specs.declared.verdict.MemberVerdict.{MemberVerdict}
use Rattle.lg_accounts.specs.Meaning.Dates.{date_text}
use Rattle.lg_accounts.specs.Meaning.Sentences.{sentences_text}
use Rattle.lg_accounts.specs.Meaning.Values.{AccountValue, NoteValue, account_value}
use Rattle.lg_accounts.specs.Meaning.Verdicts.{verdict_of}

-- what became of the member by a verdict; no verdict has the status alive
abbrev pub fate_text : Status → List ℕ
fate_text Alive = codes " was alive"
fate_text (Suspect accuser) = codes " was suspected"
fate_text Failed = codes " failed"
fate_text Left = codes " left"

-- from whom the node had a verdict: from itself, or from the sender of a packet
abbrev pub source_text : Option (List ℕ) → List ℕ
source_text None = codes "here"
source_text (Some sender) = codes "as " ++ (sender ++ codes " told")

-- NAME was suspected, failed or left at MOMENT ms (DATE), here; or: as SENDER told.
unfoldable pub fate_front : List ℕ → List ℕ → ℕ → List ℕ
fate_front name fate moment = name ++ (fate ++ (codes " at " ++ (decimal moment ++ codes " ms (")))

unfoldable pub verdict_heading : List ℕ → MemberVerdict → List ℕ
verdict_heading name verdict =
    fate_front name (fate_text verdict.record_after.status) verdict.moment ++ date_text verdict.wall_ms
    ++ codes "), " ++ source_text verdict.teller ++ codes "."

-- The heading of an account, by its last verdict. An account that has none, which isn't told, has the name alone.
abbrev pub heading_by : List ℕ → Option MemberVerdict → List ℕ
heading_by name None = name
heading_by name (Some verdict) = verdict_heading name verdict

-- the number of an entry in brackets, if it is shown
abbrev pub shown_entry : Bool → ℕ → List ℕ
shown_entry shows_entries entry = if shows_entries then codes " [" ++ (decimal entry ++ codes "]") else []

-- the line of an entry: two blanks, the moment, the number if it is shown, two blanks, and the sentences
unfoldable pub note_line : Bool → NoteValue → List ℕ
note_line shows_entries note =
    codes "  " ++ decimal note.moment ++ shown_entry shows_entries note.entry ++ codes "  "
    ++ sentences_text note.teller note.steps ++ newline

-- the last line of an account, if not all events since the opening are known where it ends
abbrev pub missing_line : Bool → List ℕ
missing_line true = []
missing_line false = codes "  Some of the past is missing, so scores and timeouts may not be told.\n"

unfoldable pub account_text : List ℕ → Bool → AccountValue → List ℕ
account_text name shows_entries account =
    heading_by name (verdict_of account) ++ newline ++ flat_map (note_line shows_entries) account.notes
    ++ missing_line account.is_known

-- The text of a member's accounts, one behind another, with or without the numbers of entries; or that there are none.
abbrev pub text_of_accounts : List ℕ → Bool → List AccountValue → List ℕ
text_of_accounts name shows_entries [] = name ++ codes " has not been suspected, and has neither failed nor left.\n"
text_of_accounts name shows_entries (account ∷ others) =
    account_text name shows_entries account ++ flat_map (account_text name shows_entries) others

unfoldable pub accounts_text : List ℕ → Bool → List Account → List ℕ
accounts_text name shows_entries accounts = text_of_accounts name shows_entries (map account_value accounts)
