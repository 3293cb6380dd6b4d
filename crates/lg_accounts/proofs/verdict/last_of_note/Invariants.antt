use Rattle.std.proofs.Common.{◌≡◌, take}
use Rattle.std.specs.List.{filter_map, last_or}
use Rattle.lg_accounts.specs.Meaning.Values.{note_value}
use Rattle.lg_accounts.specs.Meaning.Verdicts.{verdict_of_step}
use Rattle.lg_accounts.proofs.verdict.last_of_note.Given as goal

-- the last verdict of the steps so far
abbrev pub invariant-loop-step : goal.invariant-loop-step
invariant-loop-step l =
    l.last ≡ last_or l.fn.earlier (filter_map (verdict_of_step (note_value l.note)) (take l.step-index l.note.steps.items))
