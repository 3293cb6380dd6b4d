-- What a member knows of itself: its incarnation, by which it refutes suspicions; whether it was ousted, which means
-- that a claim came that it can't outdo by a greater incarnation; and whether it left. A past has the latest fact
-- first.
use Rattle.std.specs.Prelude.{ℕ, ◌+◌, Bool, true, false, nat_lt, nat_le, if◌then◌else◌}
use Rattle.std.specs.Prelude.{List, [], ◌∷◌, filter, Option, Some, None}
use Rattle.std.specs.List.{filter_map}
use Rattle.lg_rules.specs.declared.addr.Addr.{Addr}
use Rattle.lg_rules.specs.declared.claim.Claim.{Claim}
use Rattle.lg_rules.specs.declared.claim.Status.{Status}
use Rattle.lg_rules.specs.declared.claim.Status.TheVariants.{Alive, Suspect, Failed, Left}
use Rattle.lg_rules.specs.declared.own.OwnHeard.{OwnHeard}
use Rattle.lg_rules.specs.declared.own.OwnHeard.TheVariants.{Refuted, Raised, Ousted, Ignored}
use Rattle.lg_rules.specs.Meaning.Bounds.{greatest_incarnation}
use Rattle.lg_rules.specs.Meaning.Rows.{name_cmp, is_same}

-- what a member knows of itself: its name, its address, its incarnation (number), whether it was ousted, and whether it
-- left
pub record OwnValue : Type 0 where
  pub name : List ℕ
  pub addr : Addr
  pub number : ℕ
  pub ousted : Bool
  pub left : Bool

-- what happens to a member: a claim about anyone is told to it, it forgets a name, or it leaves
pub data OwnFact : Type 0 where
  Told : Claim → OwnFact
  Forgets : List ℕ → OwnFact
  TakesLeave : OwnFact

-- What a claim about this member does while it hasn't left, by the claim's status, its incarnation i and this member's
-- incarnation (number):
--     Suspect    if i >= number: this member refutes it and is at i + 1 from now on (SWIM, section 4.2)
--     Failed     if i >= number: this member is at i + 1 from now on (this project's choice)
--     Left       as Failed
--     Alive      if i > number: this member is at i + 1 from now on (this project's choice)
-- If i is the greatest incarnation, these four oust this member. Nothing else does anything.
abbrev pub beyond : ℕ → OwnHeard → OwnHeard
beyond i hearing = if nat_lt i greatest_incarnation then hearing else Ousted

abbrev pub own_hearing_at : Status → ℕ → ℕ → OwnHeard
own_hearing_at Alive i number = if nat_lt number i then beyond i Raised else Ignored
own_hearing_at (Suspect accuser) i number = if nat_le number i then beyond i Refuted else Ignored
own_hearing_at Failed i number = if nat_le number i then beyond i Raised else Ignored
own_hearing_at Left i number = if nat_le number i then beyond i Raised else Ignored

-- What a claim about this member does once it has left, whatever its status is: if i > number, this member is at i from
-- now on, and has left at that incarnation. Nothing else does anything, and nothing ousts it (this project's choice).
abbrev pub left_hearing_at : ℕ → ℕ → OwnHeard
left_hearing_at i number = if nat_lt number i then Raised else Ignored

-- what a claim about this member does, by the claim's status and incarnation
abbrev pub oneself_hearing : OwnValue → Status → ℕ → OwnHeard
oneself_hearing me status i = if me.left then left_hearing_at i me.number else own_hearing_at status i me.number

-- What any claim does. A claim about another member does nothing.
abbrev pub own_hearing : OwnValue → Claim → OwnHeard
own_hearing me c = if is_same name_cmp c.name me.name then oneself_hearing me c.status c.incarnation else Ignored

-- this member, changed as a claim with incarnation i changes it
abbrev pub oneself_changed : OwnHeard → ℕ → OwnValue → OwnValue
oneself_changed Refuted i me = record me { number = i + 1 }
oneself_changed Raised i me = record me { number = if me.left then i else i + 1 }
oneself_changed Ousted i me = record me { ousted = true }
oneself_changed Ignored i me = me

-- this member once it heard a claim
abbrev pub own_heard : OwnValue → Claim → OwnValue
own_heard me c = oneself_changed (own_hearing me c) c.incarnation me

-- this member once it leaves, which is for good: a further leave does nothing
abbrev pub own_left : OwnValue → OwnValue
own_left me = record me { left = true }

-- this member after facts, from incarnation 0 on
abbrev pub own_after : List ℕ → Addr → List OwnFact → OwnValue
own_after name addr [] = record { name = name; addr = addr; number = 0; ousted = false; left = false }
own_after name addr (Told c ∷ past) = own_heard (own_after name addr past) c
own_after name addr (Forgets n ∷ past) = own_after name addr past
own_after name addr (TakesLeave ∷ past) = own_left (own_after name addr past)

-- whether a fact counts for a member of this name: it leaves, or a claim about it is told
abbrev pub is_own_fact : List ℕ → OwnFact → Bool
is_own_fact name (Told c) = is_same name_cmp c.name name
is_own_fact name (Forgets n) = false
is_own_fact name TakesLeave = true

-- this member after a past, in which only what counts for it does anything
unfoldable pub own_of : List ℕ → Addr → List OwnFact → OwnValue
own_of name addr past = own_after name addr (filter (is_own_fact name) past)

-- the claims that are told in a past
abbrev pub claim_told : OwnFact → Option Claim
claim_told (Told c) = Some c
claim_told (Forgets n) = None
claim_told TakesLeave = None

abbrev pub claims_told : List OwnFact → List Claim
claims_told past = filter_map claim_told past

-- this member's own record: it is Alive at its incarnation, or Left if it has left
abbrev pub own_record : OwnValue → Claim
own_record me =
    let status = if me.left then Left else Alive in
    record { name = me.name; addr = me.addr; status = status; incarnation = me.number }
