-- What is claimed of a member.
use Rattle.std.specs.Prelude.{ℕ, Bool, true, false, List, Option, Some, None}
use Rattle.lg_rules.specs.declared.claim.Claim.{Claim}
use Rattle.lg_rules.specs.declared.claim.Status.{Status}
use Rattle.lg_rules.specs.declared.claim.Status.TheVariants.{Alive, Suspect, Failed, Left}

-- who accuses, if a status is Suspect
abbrev pub accuser_of : Status → Option (List ℕ)
accuser_of Alive = None
accuser_of (Suspect accuser) = Some accuser
accuser_of Failed = None
accuser_of Left = None

-- A member is gone if its status is Failed or Left.
abbrev pub is_gone : Status → Bool
is_gone Alive = false
is_gone (Suspect accuser) = false
is_gone Failed = true
is_gone Left = true

-- the member that a claim is about
abbrev pub name_of : Claim → List ℕ
name_of c = c.name
