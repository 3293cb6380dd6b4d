-- Records as text.
use Rattle.std.specs.Prelude.{ℕ, List, [], ◌∷◌, ◌++◌, codes, decimal}
use Rattle.std.specs.List.{flat_map}
use Rattle.lg_rules.specs.declared.claim.Claim.{Claim}
use Rattle.lg_rules.specs.declared.claim.Status.{Status}
use Rattle.lg_rules.specs.declared.claim.Status.TheVariants.{Alive, Suspect, Failed, Left}
use Rattle.lg_text.specs.Meaning.Addresses.{addr_text}
use Rattle.lg_text.specs.Meaning.Lines.{newline}

abbrev pub blank : List ℕ
blank = 32 ∷ []

abbrev pub status_text : Status → List ℕ
status_text Alive = codes "alive"
status_text (Suspect accuser) = codes "suspect"
status_text Failed = codes "failed"
status_text Left = codes "left"

-- the accuser of a suspect
abbrev pub accuser_text : Status → List ℕ
accuser_text Alive = []
accuser_text (Suspect accuser) = codes " by " ++ accuser
accuser_text Failed = []
accuser_text Left = []

-- NAME STATUS INCARNATION ADDRESS:PORT, and ` by ACCUSER` at the end if the member is suspected
abbrev pub record_text : Claim → List ℕ
record_text c =
    c.name ++ blank ++ status_text c.status ++ blank ++ decimal c.incarnation ++ blank ++ addr_text c.addr
    ++ accuser_text c.status

abbrev pub record_line : Claim → List ℕ
record_line c = codes "record " ++ record_text c ++ newline

-- records, a line each
unfoldable pub table_text : List Claim → List ℕ
table_text records = flat_map record_line records
