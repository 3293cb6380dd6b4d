use Rattle.std.proofs.Common.{◌≡◌, ◌++◌, string_bytes, take}
use Rattle.std.specs.List.{flat_map}
use Rattle.lg_accounts.specs.Meaning.Json.{later_value, step_json}
use Rattle.lg_accounts.proofs.json_steps.put_other_steps.Given as goal

-- the steps so far
abbrev pub invariant-loop-step : goal.invariant-loop-step
invariant-loop-step l =
    string_bytes l.text ≡ string_bytes l.initial.text ++ flat_map (later_value step_json) (take l.step-index l.others)
