-- The constants of the code are the bounds of the definitions.
use Rattle.std.specs.Prelude.{◌≡◌, refl}
use Rattle.lg_rules.specs.declared.claim.TheConstants.{MAX_CLAIMS}
use Rattle.lg_rules.specs.declared.incarnation.TheConstants.{MAX_INCARNATION}
use Rattle.lg_rules.specs.declared.members.TheConstants.{MAX_MEMBERS, MAX_OTHERS}
use Rattle.lg_rules.specs.declared.name.TheConstants.{MAX_NAME}
use Rattle.lg_rules.specs.Meaning.Bounds.{most_name_bytes, greatest_incarnation, most_others, most_members, most_claims}

pub most_name_bytes-is : MAX_NAME ≡ most_name_bytes
most_name_bytes-is = refl

pub greatest_incarnation-is : MAX_INCARNATION ≡ greatest_incarnation
greatest_incarnation-is = refl

pub most_others-is : MAX_OTHERS ≡ most_others
most_others-is = refl

pub most_members-is : MAX_MEMBERS ≡ most_members
most_members-is = refl

pub most_claims-is : MAX_CLAIMS ≡ most_claims
most_claims-is = refl
