-- Which claim about a member overrides which. Between Alive and Suspect this is the rule of SWIM (section 4.2). SWIM's
-- Confirm is called Failed here. Unlike Confirm it compares by its incarnation, so that a member that was taken to have
-- failed can come back. Left is last: who said of itself that it leaves is not taken to have failed (both are this
-- project's choices).
use Rattle.std.specs.Prelude.{ℕ, Bool, true, false, ◌||◌, ◌&&◌, ◌==◌, nat_lt}
use Rattle.lg_rules.specs.declared.claim.Claim.{Claim}
use Rattle.lg_rules.specs.declared.claim.Status.{Status}
use Rattle.lg_rules.specs.declared.claim.Status.TheVariants.{Alive, Suspect, Failed, Left}

-- whether the first status is later than the second, in the order Alive, Suspect, Failed, Left
abbrev pub is_later : Status → Status → Bool
is_later Alive t = false
is_later (Suspect a) Alive = true
is_later (Suspect a) (Suspect b) = false
is_later (Suspect a) Failed = false
is_later (Suspect a) Left = false
is_later Failed Alive = true
is_later Failed (Suspect b) = true
is_later Failed Failed = false
is_later Failed Left = false
is_later Left Alive = true
is_later Left (Suspect b) = true
is_later Left Failed = true
is_later Left Left = false

-- A status with incarnation i overrides one with incarnation j if i is greater, or if they are equal and the status is
-- later.
abbrev pub overrides : Status → ℕ → Status → ℕ → Bool
overrides s i t j = nat_lt j i || (i == j && is_later s t)

-- whether a claim overrides the record of its member
abbrev pub beats_of : Claim → Claim → Bool
beats_of claim standing = overrides claim.status claim.incarnation standing.status standing.incarnation
