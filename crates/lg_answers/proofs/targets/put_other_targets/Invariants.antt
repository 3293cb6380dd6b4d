use Rattle.std.proofs.Common.{◌≡◌, ◌++◌, string_bytes, take}
use Rattle.std.specs.List.{flat_map}
use Rattle.lg_answers.specs.Meaning.Members.{behind_comma}
use Rattle.lg_answers.specs.Meaning.Targets.{target_json}
use Rattle.lg_answers.proofs.targets.put_other_targets.Given as goal

-- the groups so far
abbrev pub invariant-loop-member : goal.invariant-loop-member
invariant-loop-member l =
    string_bytes l.text
    ≡ string_bytes l.initial.text ++ flat_map (behind_comma (target_json l.port)) (take l.member-index l.members)
