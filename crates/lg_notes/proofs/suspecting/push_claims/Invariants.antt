use Rattle.std.proofs.Common.{◌≡◌, ◌++◌, take}
use Rattle.std.specs.List.{flat_map}
use Rattle.lg_notes.specs.Meaning.Suspecting.{told_claim}
use Rattle.lg_notes.proofs.suspecting.push_claims.Given as goal

-- the steps so far
abbrev pub invariant-loop-claim : goal.invariant-loop-claim
invariant-loop-claim l =
    l.steps.items ≡ l.initial.steps.items ++ flat_map (told_claim l.name) (take l.claim-index l.claims)
