use Rattle.std.proofs.Common.{inl, inr}
use Rattle.lg_membership.proofs.suspicions.Suspicions.override_row.Goals as goal

pub returns-in-Alive : goal.returns-in-Alive
returns-in-Alive c =
    let names = c.args.members.now.names in
    let rows = c.end.ensures.rows names in
    let known = c.end.ensures.known names c.requires.known in
    let deadline = c.end.ensures.deadline names in
    elim c.in-Alive.is [
      | inl alive ↦ rw alive record { rows = rows; known = known; deadline = deadline }
      | inr gone ↦ elim gone [
        | inl failed ↦ rw failed record { rows = rows; known = known; deadline = deadline }
        | inr left ↦ rw left record { rows = rows; known = known; deadline = deadline }
      ]
    ]
