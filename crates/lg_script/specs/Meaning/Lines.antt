-- The command of a line, or why the line is faulty. If a line has several faults, the first of these counts: of the
-- command, of the number of words and how they are separated, of the form or range of a word.
use Rattle.std.specs.Prelude.{ℕ, ◌==◌, Bool, ◌||◌, List, length, drop, Option, Some, None, Result, Ok, Err}
use Rattle.std.specs.Prelude.{if◌then◌else◌, slice_index}
use Rattle.lg_script.specs.Meaning.Commands.{command_named}
use Rattle.lg_script.specs.Meaning.Words.{parts_of, verb_in, are_words_of}
use Rattle.lg_script.specs.declared.command.Command.{Command}
use Rattle.lg_script.specs.declared.fault.ScriptFault.{ScriptFault}
use Rattle.lg_script.specs.declared.fault.ScriptFault.TheVariants as fault
use Rattle.lg_script.specs.declared.verb.Verb.{Verb}

-- whether a line is passed over: it is empty or begins with '#'
abbrev pub is_passed_over : List ℕ → Bool
is_passed_over line = length line == 0 || slice_index line 0 == 35

-- a command, or the fault Value if a word is out of its form or range
abbrev pub unless_value : Option Command → Result (Option Command) ScriptFault
unless_value None = Err fault.Value
unless_value (Some command) = Ok (Some command)

-- what a line of these parts says, by the command that its first word names
abbrev pub judged : Option Verb → List (List ℕ) → Result (Option Command) ScriptFault
judged None parts = Err fault.Command
judged (Some verb) parts =
    if are_words_of verb parts then unless_value (command_named verb (drop 1 parts)) else Err fault.Words

-- The command of a line without its newline byte. It is None if the line is passed over, and the fault if it is
-- faulty.
unfoldable pub command_of : List ℕ → Result (Option Command) ScriptFault
command_of line = if is_passed_over line then Ok None else judged (verb_in (parts_of line)) (parts_of line)
