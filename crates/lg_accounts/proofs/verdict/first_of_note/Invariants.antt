use Rattle.std.proofs.Common.{◌≡◌, [], take}
use Rattle.std.specs.List.{filter_map}
use Rattle.lg_accounts.specs.Meaning.Values.{note_value}
use Rattle.lg_accounts.specs.Meaning.Verdicts.{verdict_of_step}
use Rattle.lg_accounts.proofs.verdict.first_of_note.Given as goal

-- the steps so far have no verdict
abbrev pub invariant-loop-step : goal.invariant-loop-step
invariant-loop-step l = filter_map (verdict_of_step (note_value l.note)) (take l.step-index l.note.steps.items) ≡ []
