-- Writing claims one after the other, as a loop does.
use Rattle.std.proofs.Common.{◌≡◌, ℕ, ◌+◌, ◌*◌, ◌≤◌, List, ◌∷◌, ◌++◌, length, take}
use Rattle.std.specs.List.{flat_map, AllByRecursion}
use Rattle.lg_rules.specs.declared.claim.Claim.{Claim}
use Rattle.lg_rules.specs.declared.version.Version.{Version}
use Rattle.lg_packet.specs.Meaning.Spelling.{spelled_claim, IsClaim, spellable_claim}
use Rattle.lg_packet.specs.Support.Bounds.{claim_room}

-- The count of the claims and the first n of them stand behind what was there, took no more than the room of a claim
-- each, and have spellings.
pub record Wrote (v : Version) (before after : List ℕ) (claims : List Claim) (n : ℕ) : Type 0 where
  pub items : after ≡ before ++ (length claims ∷ flat_map (spelled_claim v) (take n claims))
  pub len : length after ≤ length before + 1 + claim_room * n
  pub each : AllByRecursion (λ c. IsClaim v (spellable_claim v c)) (take n claims)
