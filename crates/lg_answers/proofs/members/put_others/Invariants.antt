use Rattle.std.proofs.Common.{◌≡◌, ◌++◌, string_bytes, take}
use Rattle.std.specs.List.{flat_map}
use Rattle.lg_answers.specs.Meaning.Members.{behind_comma, member_json}
use Rattle.lg_answers.proofs.members.put_others.Given as goal

-- the members so far
abbrev pub invariant-loop-member : goal.invariant-loop-member
invariant-loop-member l =
    string_bytes l.text ≡ string_bytes l.initial.text ++ flat_map (behind_comma member_json) (take l.member-index l.members)
