use Rattle.std.proofs.Common.{◌≡◌, ◌++◌, string_bytes, take}
use Rattle.std.specs.List.{flat_map}
use Rattle.lg_answers.specs.Meaning.Changes.{change_json}
use Rattle.lg_answers.specs.Meaning.Members.{behind_comma}
use Rattle.lg_answers.proofs.changes.put_others.Given as goal

-- the changes so far
abbrev pub invariant-loop-change : goal.invariant-loop-change
invariant-loop-change l =
    string_bytes l.text ≡ string_bytes l.initial.text ++ flat_map (behind_comma change_json) (take l.change-index l.changes)
