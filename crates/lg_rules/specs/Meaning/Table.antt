-- The table of members: of each other member that is known, the claim that stands. What is known depends on what
-- happened to this member, a past of facts with the latest first; and on whether it forgets members at all (`forgets`).
use Rattle.std.specs.Prelude.{ℕ, ◌+◌, ◌==◌, Bool, false, not, ◌&&◌, nat_lt, if◌then◌else◌}
use Rattle.std.specs.Prelude.{List, [], ◌∷◌, length, count_by, Option, Some, None}
use Rattle.std.specs.List.{filter_map}
use Rattle.lg_rules.specs.declared.claim.Claim.{Claim}
use Rattle.lg_rules.specs.declared.claim.Status.{Status}
use Rattle.lg_rules.specs.declared.claim.Status.TheVariants.{Alive, Suspect, Failed, Left}
use Rattle.lg_rules.specs.declared.members.Heard.{Heard}
use Rattle.lg_rules.specs.declared.members.Heard.TheVariants.{Overrode, Accused, Same, Ignored, NoRoom}
use Rattle.lg_rules.specs.Meaning.Beats.{beats_of}
use Rattle.lg_rules.specs.Meaning.Bounds.{most_others}
use Rattle.lg_rules.specs.Meaning.Claim.{is_gone, name_of}
use Rattle.lg_rules.specs.Meaning.Own.{OwnFact, Told, Forgets, TakesLeave}
use Rattle.lg_rules.specs.Meaning.Past.{earliest_unbeaten}
use Rattle.lg_rules.specs.Meaning.Rows.{name_cmp, is_same, is_among, put_row, put_key, row_at, without_row, without_key}
use Rattle.lg_rules.specs.Meaning.Slots.{freed, is_held, named, own_slots}
pub use Rattle.lg_rules.specs.Meaning.Slots.{slot_in}

-- Whether a claim about an unknown member lets it in, if so many others are known: it does if these are fewer than 255.
-- A member that forgets lets nobody in by a claim that says that it is gone. Else those who forget early would hear
-- that claim anew from those who forget late, for ever (this project's choice).
abbrev pub lets_in : Bool → ℕ → Claim → Bool
lets_in forgets known c = nat_lt known most_others && not (forgets && is_gone c.status)

-- whether a claim makes its member known, if these others are: it is about another that is unknown, and lets it in
abbrev pub makes_known : Bool → List ℕ → List (List ℕ) → Claim → Bool
makes_known forgets own names c =
    not (is_same name_cmp c.name own) && (not (is_among name_cmp c.name names) && lets_in forgets (length names) c)

module _ (forgets : Bool) (own : List ℕ) where
  -- The other members that are known, in the order of names. A name that is forgotten is unknown, until a claim makes
  -- it known again.
  unfoldable pub roster : List OwnFact → List (List ℕ)
  roster [] = []
  roster (Told c ∷ past) =
      if makes_known forgets own (roster past) c then put_key name_cmp c.name (roster past) else roster past
  roster (Forgets n ∷ past) = without_key name_cmp n (roster past)
  roster (TakesLeave ∷ past) = roster past

  -- The claims about another member that count, the latest first: those that were told since it became known for the
  -- last time. What was said of a name before it was forgotten counts for nothing, nor does what was said of it while
  -- it was unknown.
  unfoldable pub story : List OwnFact → List ℕ → List Claim
  story [] m = []
  story (Told c ∷ past) m =
      if is_same name_cmp c.name m && is_among name_cmp m (roster (Told c ∷ past))
      then c ∷ story past m
      else story past m
  story (Forgets n ∷ past) m = if is_same name_cmp n m then [] else story past m
  story (TakesLeave ∷ past) m = story past m

  -- The record of a member is the earliest claim of these that none of them overrides (SWIM, section 4.2).
  unfoldable pub record_of : List OwnFact → List ℕ → Option Claim
  record_of past m = earliest_unbeaten beats_of (story past m)

  -- the records of the others, in the order of names
  unfoldable pub table_of : List OwnFact → List Claim
  table_of past = filter_map (record_of past) (roster past)

  -- The known names by slots. A name that becomes known gets the lowest free slot, and keeps it until it is forgotten.
  unfoldable pub names_by_slot : List OwnFact → List (Option (List ℕ))
  names_by_slot [] = own_slots own
  names_by_slot (Told c ∷ past) =
      if makes_known forgets own (roster past) c then named c.name (names_by_slot past) else names_by_slot past
  names_by_slot (Forgets n ∷ past) =
      if is_same name_cmp n own then names_by_slot past else freed n (names_by_slot past)
  names_by_slot (TakesLeave ∷ past) = names_by_slot past

-- what a member knows of the others: its own name, whether it forgets, the records of the others, and all names by
-- slots
pub record MembersValue : Type 0 where
  pub own : List ℕ
  pub forgets : Bool
  pub table : List Claim
  pub names : List (Option (List ℕ))

abbrev pub known_of : Bool → List ℕ → List OwnFact → MembersValue
known_of forgets own past = record {
  own = own;
  forgets = forgets;
  table = table_of forgets own past;
  names = names_by_slot forgets own past;
}

-- Whether a claim about another is taken. It is if it overrides the record, or if there is no record and it lets its
-- member in.
abbrev pub takes_over : Bool → ℕ → Claim → Option Claim → Bool
takes_over forgets known c None = lets_in forgets known c
takes_over forgets known c (Some r) = beats_of c r

unfoldable pub takes : Bool → List Claim → Claim → Bool
takes forgets table c = takes_over forgets (length table) c (row_at name_cmp name_of c.name table)

-- the table once a claim about another is heard
abbrev pub heard : Bool → List Claim → Claim → List Claim
heard forgets table c = if takes forgets table c then put_row name_cmp name_of c table else table

-- The names by slots once a claim about another is heard, by whether it is taken: then a name that has no slot gets the
-- lowest free one.
abbrev pub names_heard : Bool → List (Option (List ℕ)) → Claim → List (Option (List ℕ))
names_heard taken names c = if taken && not (is_held c.name names) then named c.name names else names

-- what a member knows once it heard a claim about another
abbrev pub members_heard : MembersValue → Claim → MembersValue
members_heard k c = record k {
  table = heard k.forgets k.table c;
  names = names_heard (takes k.forgets k.table c) k.names c;
}

-- what a member knows once it forgot a name, which does nothing to its own
abbrev pub members_forgot : List ℕ → MembersValue → MembersValue
members_forgot n k =
    if is_same name_cmp n k.own then k
    else record k { table = without_row name_cmp name_of n k.table; names = freed n k.names }

-- the slot that a name gives back once it is forgotten, if it is another's that is known
abbrev pub slot_given_back : List ℕ → MembersValue → Option ℕ
slot_given_back n k = if is_same name_cmp n k.own then None else slot_in n k.names

-- Whether a claim about another brings a member for which there is no room until one is forgotten: this member forgets,
-- 255 others are known, and the claim's member is none of them, and isn't gone by the claim.
abbrev pub lacks_room : Bool → ℕ → Claim → Option Claim → Bool
lacks_room forgets known c None = forgets && (not (nat_lt known most_others) && not (is_gone c.status))
lacks_room forgets known c (Some r) = false

abbrev pub table_needs_room : MembersValue → Claim → Bool
table_needs_room k c = lacks_room k.forgets (length k.table) c (row_at name_cmp name_of c.name k.table)

-- What hearing a claim does if it isn't taken, and its member has a record:
--     Accused    it accuses a member that is suspected already, at the record's incarnation
--     Same       it has the record's status and incarnation, and is no accusation
--     Ignored    it says nothing new
-- If its member has no record, it says of an unknown member that it is gone, to one that forgets (Ignored), or there is
-- no room for a record (NoRoom).
abbrev pub standing_status : Status → Status → Heard
standing_status Alive Alive = Same
standing_status (Suspect a) (Suspect b) = Accused
standing_status Failed Failed = Same
standing_status Left Left = Same
standing_status Alive (Suspect b) = Ignored
standing_status Alive Failed = Ignored
standing_status Alive Left = Ignored
standing_status (Suspect a) Alive = Ignored
standing_status (Suspect a) Failed = Ignored
standing_status (Suspect a) Left = Ignored
standing_status Failed Alive = Ignored
standing_status Failed (Suspect b) = Ignored
standing_status Failed Left = Ignored
standing_status Left Alive = Ignored
standing_status Left (Suspect b) = Ignored
standing_status Left Failed = Ignored

abbrev pub standing_hearing : Bool → Claim → Option Claim → Heard
standing_hearing forgets c None = if forgets && is_gone c.status then Ignored else NoRoom
standing_hearing forgets c (Some r) =
    if c.incarnation == r.incarnation then standing_status c.status r.status else Ignored

abbrev pub hearing_of : Bool → List Claim → Claim → Heard
hearing_of forgets table c =
    if takes forgets table c then Overrode else standing_hearing forgets c (row_at name_cmp name_of c.name table)

-- the number of live members, n: how many aren't gone, this member included
abbrev pub live_in : List Claim → ℕ
live_in table = 1 + count_by (λ r. not (is_gone r.status)) table
