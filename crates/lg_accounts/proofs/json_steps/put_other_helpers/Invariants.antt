use Rattle.std.proofs.Common.{◌≡◌, ◌++◌, string_bytes, take}
use Rattle.std.specs.List.{flat_map}
use Rattle.lg_accounts.specs.Meaning.Json.{helper_json, later_value}
use Rattle.lg_accounts.proofs.json_steps.put_other_helpers.Given as goal

-- the helpers so far
abbrev pub invariant-loop-helper : goal.invariant-loop-helper
invariant-loop-helper l =
    string_bytes l.text ≡ string_bytes l.initial.text ++ flat_map (later_value helper_json) (take l.helper-index l.others)
