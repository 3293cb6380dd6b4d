-- What a script gives: its text, and how its run ends.
use Rattle.std.specs.Prelude.{ℕ, ◌+◌, List, [], ◌∷◌, ◌++◌}
use Rattle.std.specs.Prelude.{Option, Some, None, Result, Ok, Err, codes, decimal}
use Rattle.lg_text.specs.Meaning.Lines.{lines_of, newline}
use Rattle.lg_text.specs.declared.end.RunEnd.{RunEnd}
use Rattle.lg_text.specs.declared.end.RunEnd.TheVariants.{Done, Faulty}
use Rattle.lg_script.specs.Meaning.Faults.{fault_word}
use Rattle.lg_script.specs.Meaning.Lines.{command_of}
use Rattle.lg_script.specs.declared.command.Command.{Command}
use Rattle.lg_script.specs.declared.fault.ScriptFault.{ScriptFault}
use Rattle.lg_sim.specs.Meaning.Outcome.{command_fault, text_of}

-- Why a line is faulty after the earlier commands: because of its form, or because of its command. A line without a
-- command isn't faulty.
abbrev pub fault_said : Result (Option Command) ScriptFault → List Command → Option ScriptFault
fault_said (Ok None) before = None
fault_said (Ok (Some command)) before = command_fault command before
fault_said (Err fault) before = Some fault

abbrev pub line_fault : List ℕ → List Command → Option ScriptFault
line_fault line before = fault_said (command_of line) before

-- what a line that isn't faulty writes: what its command gives, if it has one
abbrev pub text_said : Result (Option Command) ScriptFault → List Command → List ℕ
text_said (Ok None) before = []
text_said (Ok (Some command)) before = text_of command before
text_said (Err fault) before = []

abbrev pub line_text : List ℕ → List Command → List ℕ
line_text line before = text_said (command_of line) before

-- the commands so far, with the command of a line, if it has one
abbrev pub with_said : Result (Option Command) ScriptFault → List Command → List Command
with_said (Ok None) before = before
with_said (Ok (Some command)) before = command ∷ before
with_said (Err fault) before = before

abbrev pub with_line : List ℕ → List Command → List Command
with_line line before = with_said (command_of line) before

-- the line that reports a fault: the number of the faulty line, and the word for its fault
abbrev pub fault_line : ℕ → ScriptFault → List ℕ
fault_line number fault =
    codes "fault " ++ decimal number ++ codes " " ++ fault_word fault ++ newline

-- What some lines write after the earlier commands; the first of them has the number `number`. Each writes its text
-- after those before it, up to the first faulty one. The fault of that one is the last line of the text.
abbrev pub text_from : ℕ → List Command → List (List ℕ) → List ℕ
text_from number before [] = []
text_from number before (line ∷ lines) =
    elim (line_fault line before) [
      | None ↦ line_text line before ++ text_from (number + 1) (with_line line before) lines
      | Some fault ↦ fault_line number fault
    ]

abbrev pub end_from : List Command → List (List ℕ) → RunEnd
end_from before [] = Done
end_from before (line ∷ lines) =
    elim (line_fault line before) [
      | None ↦ end_from (with_line line before) lines
      | Some fault ↦ Faulty
    ]

-- what is written for a script
unfoldable pub script_text : List ℕ → List ℕ
script_text input = text_from 1 [] (lines_of input)

-- how the run of a script ends: faulty exactly if some line is faulty after those before it
unfoldable pub script_end : List ℕ → RunEnd
script_end input = end_from [] (lines_of input)
