use Rattle.std.proofs.Common.{◌≡◌, ◌++◌, string_bytes, take}
use Rattle.std.specs.List.{flat_map}
use Rattle.lg_answers.specs.Meaning.Page.{member_row}
use Rattle.lg_answers.proofs.page.put_rows.Given as goal

-- the rows so far
abbrev pub invariant-loop-member : goal.invariant-loop-member
invariant-loop-member l =
    string_bytes l.text ≡ string_bytes l.initial.text ++ flat_map (member_row) (take l.member-index l.members)
