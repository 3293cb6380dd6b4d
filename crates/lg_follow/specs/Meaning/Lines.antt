-- The lines that a watcher writes.
use Rattle.std.specs.Prelude.{ℕ, List, ◌++◌, codes, decimal}
use Rattle.std.specs.List.{flat_map}
use Rattle.lg_rules.specs.declared.claim.Claim.{Claim}
use Rattle.lg_changes.specs.declared.change.Altered.{Altered}
use Rattle.lg_changes.specs.declared.change.Altered.TheVariants.{Recorded, Forgotten}
use Rattle.lg_changes.specs.declared.change.Change.{Change}
use Rattle.lg_text.specs.Meaning.Lines.{newline}
use Rattle.lg_lines.specs.Meaning.Records.{blank, record_line}

-- the line of a record that was told at this moment: MS record NAME STATUS INCARNATION ADDRESS:PORT
abbrev pub told_line : ℕ → Claim → List ℕ
told_line moment c = decimal moment ++ blank ++ record_line c

-- a line for each of these records
unfoldable pub told_lines : ℕ → List Claim → List ℕ
told_lines moment records = flat_map (λ c. told_line moment c) records

-- the line of a name that was forgotten at this moment: MS forgotten NAME
abbrev pub forgotten_line : ℕ → List ℕ → List ℕ
forgotten_line moment name = decimal moment ++ codes " forgotten " ++ name ++ newline

-- the line of what was altered at this moment: that of the record, or that of the name that was forgotten
abbrev pub alteration_line : ℕ → Altered → List ℕ
alteration_line moment (Recorded c) = told_line moment c
alteration_line moment (Forgotten name) = forgotten_line moment name

-- the line of a change: that of what it altered, at its moment
abbrev pub changed_line : Change → List ℕ
changed_line change = alteration_line change.moment change.altered

-- a line for each of these changes
unfoldable pub changed_lines : List Change → List ℕ
changed_lines changes = flat_map (λ change. changed_line change) changes

-- the line that says that changes were missed, as of this moment: MS missed
abbrev pub missed_line : ℕ → List ℕ
missed_line moment = decimal moment ++ codes " missed" ++ newline

-- the last line: how many milliseconds a clock had left out by this moment
abbrev pub stood_line : ℕ → ℕ → List ℕ
stood_line moment left_out = decimal moment ++ codes " stood-still " ++ decimal left_out ++ newline
