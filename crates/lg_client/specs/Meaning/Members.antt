-- The members that an answer says (this project's choice). Nothing is said if one of them isn't what is documented.
use Rattle.std.specs.Prelude.{ℕ, nat_le, List, codes, Option, Some, None, option_and_then, option_map}
use Rattle.std.specs.Prelude.{if◌then◌else◌}
use Rattle.std.specs.Str.{bytes_eq}
use Rattle.serde_json.specs.Data.{Data}
use Rattle.serde_json.specs.Find.{as_null, get}
use Rattle.lg_rules.specs.declared.addr.Addr.{Addr}
use Rattle.lg_rules.specs.declared.claim.Claim.{Claim}
use Rattle.lg_rules.specs.declared.claim.Status.{Status}
use Rattle.lg_rules.specs.declared.claim.Status.TheVariants.{Alive, Failed, Left, Suspect}
use Rattle.lg_rules.specs.Meaning.Bounds.{greatest_incarnation}
use Rattle.lg_text.specs.Meaning.IpReading.{ip_of}
use Rattle.lg_text.specs.Meaning.Numbers.{port_among}
use Rattle.lg_text.specs.Meaning.Steps.{◌>>=◌}
use Rattle.lg_client.specs.Meaning.Fields.{each_read, name_at_key, natural_at_key, rows_at_key, text_at_key}

-- the address of a member, of IPv4 or IPv6, and its port
unfoldable pub addr_said : Data → Option Addr
addr_said member = do
  text ← text_at_key (codes "address") member
  ip ← ip_of text
  number ← natural_at_key (codes "port") member
  port ← port_among number
  Some record { ip = ip; port = port }

-- a status, if the member has no accuser
abbrev pub plain_status : Status → Data → Option Status
plain_status status member = do
  accuser ← get (codes "accuser") member
  option_map (λ _. status) (as_null accuser)

-- the status of a suspect, which has one
abbrev pub suspicion_said : Data → Option Status
suspicion_said member = option_map Suspect (name_at_key (codes "accuser") member)

-- the status of a member whose status has this word
abbrev pub standing_said : List ℕ → Data → Option Status
standing_said word member =
    if bytes_eq word (codes "alive") then plain_status Alive member
    else if bytes_eq word (codes "suspect") then suspicion_said member
    else if bytes_eq word (codes "failed") then plain_status Failed member
    else if bytes_eq word (codes "left") then plain_status Left member
    else None

abbrev pub status_said : Data → Option Status
status_said member = option_and_then (λ word. standing_said word member) (text_at_key (codes "status") member)

-- an incarnation
abbrev pub incarnation_among : ℕ → Option ℕ
incarnation_among number = if nat_le number greatest_incarnation then Some number else None

abbrev pub incarnation_said : Data → Option ℕ
incarnation_said value = option_and_then incarnation_among (natural_at_key (codes "incarnation") value)

-- a member: its name, its address, its status with its accuser, and its incarnation
unfoldable pub member_said : Data → Option Claim
member_said member = do
  name ← name_at_key (codes "name") member
  addr ← addr_said member
  status ← status_said member
  incarnation ← incarnation_said member
  Some record { name = name; addr = addr; status = status; incarnation = incarnation }

-- the members, in the order of the answer
abbrev pub members_of_answer : Data → Option (List Claim)
members_of_answer answer = option_and_then (each_read member_said) (rows_at_key (codes "members") answer)
