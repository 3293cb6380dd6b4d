use Rattle.std.proofs.Common.{◌≡◌, ◌++◌, string_bytes, take}
use Rattle.std.specs.List.{flat_map}
use Rattle.lg_accounts.specs.Meaning.Pages.{step_mark}
use Rattle.lg_accounts.specs.Meaning.Values.{note_value}
use Rattle.lg_accounts.proofs.picture.put_note_marks.Given as goal

-- the marks of the steps so far
abbrev pub invariant-loop-step : goal.invariant-loop-step
invariant-loop-step l =
    string_bytes l.text ≡ string_bytes l.initial.text ++ flat_map (step_mark l.time (note_value l.note)) (take l.step-index l.note.steps.items)
