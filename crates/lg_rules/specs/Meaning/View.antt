-- The member table, which has this member's own record among those of the others; and which of its records differ
-- from an earlier table.
use Rattle.std.specs.Prelude.{Bool, true, false, ◌&&◌, ◌==◌, not, nat_eq}
use Rattle.std.specs.Prelude.{List, filter, Option, Some, None}
use Rattle.std.specs.Cmp.Lexicographic.{pointwise}
use Rattle.lg_rules.specs.declared.addr.Addr.{Addr}
use Rattle.lg_rules.specs.declared.addr.Ip.{Ip}
use Rattle.lg_rules.specs.declared.addr.Ip.TheVariants.{V4, V6}
use Rattle.lg_rules.specs.declared.claim.Claim.{Claim}
use Rattle.lg_rules.specs.declared.claim.Status.{Status}
use Rattle.lg_rules.specs.declared.claim.Status.TheVariants.{Alive, Suspect, Failed, Left}
use Rattle.lg_rules.specs.Meaning.Claim.{name_of}
use Rattle.lg_rules.specs.Meaning.Rows.{name_cmp, is_same, put_row, row_at}

-- this member's own record and those of the others, in the order of names
abbrev pub view_of : Claim → List Claim → List Claim
view_of own table = put_row name_cmp name_of own table

-- whether two claims are the same
abbrev pub is_same_status : Status → Status → Bool
is_same_status Alive Alive = true
is_same_status Alive (Suspect b) = false
is_same_status Alive Failed = false
is_same_status Alive Left = false
is_same_status (Suspect a) Alive = false
is_same_status (Suspect a) (Suspect b) = is_same name_cmp a b
is_same_status (Suspect a) Failed = false
is_same_status (Suspect a) Left = false
is_same_status Failed Alive = false
is_same_status Failed (Suspect b) = false
is_same_status Failed Failed = true
is_same_status Failed Left = false
is_same_status Left Alive = false
is_same_status Left (Suspect b) = false
is_same_status Left Failed = false
is_same_status Left Left = true

abbrev pub is_same_ip : Ip → Ip → Bool
is_same_ip (V4 a) (V4 b) = pointwise nat_eq a b
is_same_ip (V4 a) (V6 b) = false
is_same_ip (V6 a) (V4 b) = false
is_same_ip (V6 a) (V6 b) = pointwise nat_eq a b

abbrev pub is_same_addr : Addr → Addr → Bool
is_same_addr a b = is_same_ip a.ip b.ip && a.port == b.port

abbrev pub is_same_claim : Claim → Claim → Bool
is_same_claim c d =
    is_same name_cmp c.name d.name
    && (is_same_addr c.addr d.addr && (is_same_status c.status d.status && c.incarnation == d.incarnation))

abbrev pub is_row : Claim → Option Claim → Bool
is_row r None = false
is_row r (Some b) = is_same_claim b r

-- of the records after, those that aren't among the records before, in the order of names
abbrev pub changed : List Claim → List Claim → List Claim
changed before after = filter (λ r. not (is_row r (row_at name_cmp name_of r.name before))) after
