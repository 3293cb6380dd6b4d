use Rattle.std.proofs.Common.{◌≡◌, ◌≤◌, ◌<◌, ◌==◌, ◌&&◌, ℕ, suc, Bool, true, false, cond, ap, ◌∙◌, sym, subst, refl, map, length, List}
use Rattle.std.proofs.Common.{arith, Some, None}
use Rattle.std.specs.List.{insert, position}
use Rattle.std.proofs.lemmas.List.{length-map}
use Rattle.lg_rules.specs.declared.claim.Claim.{Claim}
use Rattle.lg_rules.specs.Meaning.Claim.{is_gone, name_of}
use Rattle.lg_rules.specs.Meaning.Rows.{name_cmp, row_at, Rises}
use Rattle.lg_rules.specs.Meaning.Slots.{is_held, free_slot, one_further}
use Rattle.lg_rules.specs.Meaning.Table.{MembersValue, members_heard, names_heard, takes, hearing_of, standing_hearing}
use Rattle.lg_rules.specs.declared.members.Heard.TheVariants.{NoRoom, Overrode, Ignored}
use Rattle.lg_rules.specs.Support.Places.{HasRow, LacksRow}
use Rattle.lg_rules.specs.Support.Slots.{held_names}
use Rattle.lg_rules.proofs.Naming.{heard-known, heard-new, heard-oneself, heard-kept, heard-past, known-leaves}
use Rattle.lg_rules.proofs.Numbering.{key-at, known-at, keys-inserted, keys-apart, unknown, length-slots}
use Rattle.lg_rules.proofs.Numbering.{free-at, full-at, room-at, names-inserted, numbered-inserted, numbered-same}
use Rattle.lg_rules.proofs.Tables.{heard_taken, heard_passed, takes-new, takes-full, takes-gone}
use Rattle.lg_rules.proofs.KeyOrder.{names_order}
use Rattle.lg_rules.proofs.RowsFound.{rises-put_row}
use Rattle.lg_rules.proofs.members.Members.hear.Goals as goal

-- what is known, as it is held
abbrev held_as : List ℕ → Bool → List Claim → List ℕ → MembersValue
held_as own forgets rows indexes =
    record { own = own; forgets = forgets; table = rows; names = held_names own (map name_of rows) indexes }

-- the record is there: the names are as before
has-row : (c : goal.After-hear_known)
    → HasRow name_cmp name_of c.args.claim.now.name c.self.inside.records.items c.in-Ok.at
has-row c = c.in-Ok.ensures

members-known : (c : goal.After-hear_known)
    → held_as c.self.inside.own c.self.inside.forgets c.hear_known.new.records.items c.self.inside.indexes
    ≡ members_heard c.args.self.now c.args.claim.now
members-known c =
    let own = c.self.inside.own in
    let forgets = c.self.inside.forgets in
    let rows = c.self.inside.records.items in
    let indexes = c.self.inside.indexes in
    let claim = c.args.claim.now in
    let n = claim.name in
    let has = has-row c in
    let within : c.in-Ok.at < length (map name_of rows) = omega (arith, has.within, length-map rows name_of) in
    let known = known-at c.self.invariant.names n c.in-Ok.at within (key-at name_of n rows c.in-Ok.at has) in
    let names =
    ap (λ ks. held_names own ks indexes) c.hear_known.ensures.names
    ∙ sym (heard-known (takes forgets rows claim) (held_names own (map name_of rows) indexes) claim known) in
    (λ i. record { own = own; forgets = forgets; table = c.hear_known.ensures.table forgets i; names = names i })
    ∙ ap (λ (k : MembersValue). members_heard k claim) c.self.view_is

pub returns-in-Ok-clause-hearing : goal.returns-in-Ok-clause-hearing
returns-in-Ok-clause-hearing c =
    c.hear_known.ensures.hearing c.self.inside.forgets
    ∙ ap (λ (k : MembersValue). hearing_of k.forgets k.table c.args.claim.now) c.self.view_is

pub returns-in-Ok-clause-members : goal.returns-in-Ok-clause-members
returns-in-Ok-clause-members c = members-known c

pub returns-in-Ok-clause-kept : goal.returns-in-Ok-clause-kept
returns-in-Ok-clause-kept c =
    let k = c.args.self.now in
    heard-kept (takes k.forgets k.table c.args.claim.now) k.names _ c.args.claim.now
    (ap (λ (m : MembersValue). m.names) (members-known c))

pub returns-in-Ok-clause-past : goal.returns-in-Ok-clause-past
returns-in-Ok-clause-past c = λ past e.
    let k = c.args.self.now in
    members-known c ∙ ap (λ m. members_heard m c.args.claim.now) e
    ∙ heard-past k.forgets k.own c.args.claim.now past c.requires

pub returns-in-Ok-clause-oneself : goal.returns-in-Ok-clause-oneself
returns-in-Ok-clause-oneself c = heard-oneself c.args.self.now.forgets c.args.self.now.own

pub returns-in-Ok-clause-leave : goal.returns-in-Ok-clause-leave
returns-in-Ok-clause-leave c = known-leaves c.args.self.now.forgets c.args.self.now.own

-- it says that an unknown member is gone, to a member that forgets
gone-row : (c : goal.Then-is_unwelcome) → row_at name_cmp name_of c.args.claim.now.name c.self.inside.records.items ≡ None
gone-row c =
    let lacks : LacksRow name_cmp name_of c.args.claim.now.name c.self.inside.records.items c.in-Err.field-0 =
    c.in-Err.ensures in
    lacks.missing

-- a claim that isn't taken leaves all as it is
passed-by : (k : MembersValue) (claim : Claim) → takes k.forgets k.table claim ≡ false → k ≡ members_heard k claim
passed-by k claim f = λ i. record k {
  table = sym (heard_passed k.forgets k.table claim f) i;
  names = sym (ap (λ b. names_heard b k.names claim) f) i;
}

pub returns-in-Err-clause-hearing : goal.returns-in-Err-clause-hearing
returns-in-Err-clause-hearing c =
    let forgets = c.self.inside.forgets in
    let rows = c.self.inside.records.items in
    let claim = c.args.claim.now in
    let gone : (forgets && is_gone claim.status) ≡ true = sym c.is_unwelcome.ensures ∙ c.if-is_unwelcome.true in
    let said : hearing_of forgets rows claim ≡ Ignored =
    ap (λ b. cond b Overrode (standing_hearing forgets claim (row_at name_cmp name_of claim.name rows)))
    (takes-gone forgets rows claim (gone-row c) gone)
    ∙ ap (standing_hearing forgets claim) (gone-row c)
    ∙ ap (λ b. cond b Ignored NoRoom) gone in
    sym said ∙ ap (λ (k : MembersValue). hearing_of k.forgets k.table claim) c.self.view_is

members-passed : (c : goal.Then-is_unwelcome) → (c.self.inside.forgets && is_gone c.args.claim.now.status) ≡ true
    → c.args.self.now ≡ members_heard c.args.self.now c.args.claim.now
members-passed c gone =
    let claim = c.args.claim.now in
    passed-by c.args.self.now claim
    (subst (λ (k : MembersValue). takes k.forgets k.table claim ≡ false) c.self.view_is
    (takes-gone c.self.inside.forgets c.self.inside.records.items claim (gone-row c) gone))

pub returns-in-Err-clause-members : goal.returns-in-Err-clause-members
returns-in-Err-clause-members c = members-passed c (sym c.is_unwelcome.ensures ∙ c.if-is_unwelcome.true)

pub returns-in-Err-clause-past : goal.returns-in-Err-clause-past
returns-in-Err-clause-past c = λ past e.
    let k = c.args.self.now in
    members-passed c (sym c.is_unwelcome.ensures ∙ c.if-is_unwelcome.true)
    ∙ ap (λ m. members_heard m c.args.claim.now) e
    ∙ heard-past k.forgets k.own c.args.claim.now past c.requires

pub returns-in-Err-clause-oneself : goal.returns-in-Err-clause-oneself
returns-in-Err-clause-oneself c = heard-oneself c.args.self.now.forgets c.args.self.now.own

pub returns-in-Err-clause-leave : goal.returns-in-Err-clause-leave
returns-in-Err-clause-leave c = known-leaves c.args.self.now.forgets c.args.self.now.own

-- there is no room: the names are as before
free-none : (c : goal.In-None)
    → free_slot (held_names c.self.inside.own (map name_of c.self.inside.records.items) c.self.inside.indexes) ≡ None
free-none c =
    let none : position (λ i. i == 255) c.self.inside.indexes ≡ None = sym c.free_place.ensures ∙ c.in-None.is in
    free-at c.self.invariant.names ∙ ap one_further none

lacks-none : (c : goal.In-None) → row_at name_cmp name_of c.args.claim.now.name c.self.inside.records.items ≡ None
lacks-none c =
    let n = c.args.claim.now.name in
    let rows = c.self.inside.records.items in
    let lacks : LacksRow name_cmp name_of n rows c.in-Err.field-0 =
    subst (λ (k : ℕ). LacksRow name_cmp name_of n rows k) (sym c.in-Err-2.at-is) c.in-Err-2.ensures in
    lacks.missing

full-none : (c : goal.In-None) → takes c.self.inside.forgets c.self.inside.records.items c.args.claim.now ≡ false
full-none c =
    let rows = c.self.inside.records.items in
    let many : length rows ≡ 255 =
    omega (arith, full-at c.self.invariant.names (free-none c), length-map rows name_of) in
    takes-full c.self.inside.forgets rows c.args.claim.now (lacks-none c) (omega (arith, many))

members-none : (c : goal.In-None) → c.args.self.now ≡ members_heard c.args.self.now c.args.claim.now
members-none c =
    let claim = c.args.claim.now in
    passed-by c.args.self.now claim
    (subst (λ (k : MembersValue). takes k.forgets k.table claim ≡ false) c.self.view_is (full-none c))

pub returns-in-None-clause-hearing : goal.returns-in-None-clause-hearing
returns-in-None-clause-hearing c =
    let forgets = c.self.inside.forgets in
    let rows = c.self.inside.records.items in
    let claim = c.args.claim.now in
    let welcome : (forgets && is_gone claim.status) ≡ false = sym c.is_unwelcome.ensures ∙ c.if-is_unwelcome.false in
    let said : hearing_of forgets rows claim ≡ NoRoom =
    ap (λ b. cond b Overrode (standing_hearing forgets claim (row_at name_cmp name_of claim.name rows))) (full-none c)
    ∙ ap (standing_hearing forgets claim) (lacks-none c)
    ∙ ap (λ b. cond b Ignored NoRoom) welcome in
    sym said ∙ ap (λ (k : MembersValue). hearing_of k.forgets k.table claim) c.self.view_is

pub returns-in-None-clause-members : goal.returns-in-None-clause-members
returns-in-None-clause-members c = members-none c

pub returns-in-None-clause-past : goal.returns-in-None-clause-past
returns-in-None-clause-past c = λ past e.
    let k = c.args.self.now in
    members-none c ∙ ap (λ m. members_heard m c.args.claim.now) e
    ∙ heard-past k.forgets k.own c.args.claim.now past c.requires

pub returns-in-None-clause-oneself : goal.returns-in-None-clause-oneself
returns-in-None-clause-oneself c = heard-oneself c.args.self.now.forgets c.args.self.now.own

pub returns-in-None-clause-leave : goal.returns-in-None-clause-leave
returns-in-None-clause-leave c = known-leaves c.args.self.now.forgets c.args.self.now.own

-- the name is new: it has the lowest free slot
found : (c : goal.After-give_slot) → position (λ i. i == 255) c.self.inside.indexes ≡ Some c.in-Some.free
found c = sym c.free_place.ensures ∙ c.in-Some.is

few-rows : (c : goal.After-give_slot) → length c.self.inside.records.items < 255
few-rows c =
    omega (
      arith,
      length-map c.self.inside.records.items name_of,
      room-at c.self.invariant.names (suc c.in-Some.free) (free-at c.self.invariant.names ∙ ap one_further (found c)),
    )

lacks-row : (c : goal.After-give_slot)
    → LacksRow name_cmp name_of c.args.claim.now.name c.self.inside.records.items c.in-Err.field-0
lacks-row c =
    let n = c.args.claim.now.name in
    let rows = c.self.inside.records.items in
    subst (λ (k : ℕ). LacksRow name_cmp name_of n rows k) (sym c.in-Err-2.at-is) c.in-Err-2.ensures

within-rows : (c : goal.After-give_slot) → c.in-Err.field-0 ≤ length (map name_of c.self.inside.records.items)
within-rows c = omega (arith, (lacks-row c).within, length-map c.self.inside.records.items name_of)

pub add-requires-clause-room : goal.add-requires-clause-room
add-requires-clause-room c =
    let held = c.self.invariant.names in
    let free = free-at held ∙ ap one_further (sym c.free_place.ensures ∙ c.in-Some.is) in
    omega (arith, length-map c.self.inside.records.items name_of, room-at held (suc c.in-Some.free) free)

pub give_slot-requires-clause-room : goal.give_slot-requires-clause-room
give_slot-requires-clause-room c =
    let held = c.self.invariant.names in
    let free = free-at held ∙ ap one_further (sym c.free_place.ensures ∙ c.in-Some.is) in
    omega (arith, length-slots held, room-at held (suc c.in-Some.free) free)

pub give_slot-requires-clause-within : goal.give_slot-requires-clause-within
give_slot-requires-clause-within c =
    let rows = c.self.inside.records.items in
    let lacks : LacksRow name_cmp name_of c.args.claim.now.name rows c.in-Err-2.at = c.in-Err-2.ensures in
    omega (arith, length-slots c.self.invariant.names, length-map rows name_of, lacks.within, c.in-Err-2.at-is)

keys-added : (c : goal.After-give_slot)
    → map name_of c.add.new.records.items ≡ insert (map name_of c.self.inside.records.items) c.in-Err.field-0
    c.args.claim.now.name
keys-added c =
    let claim = c.args.claim.now in
    ap (map name_of) c.add.ensures.rows
    ∙ keys-inserted name_of claim.name claim c.self.inside.records.items c.in-Err.field-0 (lacks-row c) refl

unknown-name : (c : goal.After-give_slot)
    → is_held c.args.claim.now.name
    (held_names c.self.inside.own (map name_of c.self.inside.records.items) c.self.inside.indexes) ≡ false
unknown-name c =
    let n = c.args.claim.now.name in
    let own-is : c.self.inside.own ≡ c.args.self.now.own = ap (λ (k : MembersValue). k.own) c.self.view_is in
    unknown c.self.invariant.names n (λ e. c.requires (sym e
    ∙ own-is)) (keys-apart name_of n c.self.inside.records.items c.self.invariant.rows.rises
    (lacks-row c).missing)

taken-added : (c : goal.After-give_slot) → takes c.self.inside.forgets c.self.inside.records.items c.args.claim.now ≡ true
taken-added c =
    takes-new c.self.inside.forgets c.self.inside.records.items c.args.claim.now (lacks-row c).missing
    (sym c.is_unwelcome.ensures ∙ c.if-is_unwelcome.false) (few-rows c)

members-added : (c : goal.After-give_slot)
    → held_as c.self.inside.own c.self.inside.forgets c.add.new.records.items c.give_slot.new.indexes
    ≡ members_heard c.args.self.now c.args.claim.now
members-added c =
    let own = c.self.inside.own in
    let forgets = c.self.inside.forgets in
    let rows = c.self.inside.records.items in
    let claim = c.args.claim.now in
    let before = held_names own (map name_of rows) c.self.inside.indexes in
    let free = free-at c.self.invariant.names ∙ ap one_further (found c) in
    let names =
    (λ i. held_names own (keys-added c i) (c.give_slot.ensures.indexes i))
    ∙ names-inserted c.self.invariant.names claim.name c.in-Err.field-0 (within-rows c) c.in-Some.free
    (found c)
    ∙ sym (heard-new before claim (suc c.in-Some.free) (unknown-name c) free)
    ∙ sym (ap (λ b. names_heard b before claim) (taken-added c)) in
    let table = c.add.ensures.rows ∙ sym (heard_taken forgets rows claim (taken-added c)) in
    (λ i. record { own = own; forgets = forgets; table = table i; names = names i })
    ∙ ap (λ (k : MembersValue). members_heard k claim) c.self.view_is

pub invariant_of-self-in-Some : goal.invariant_of-self-in-Some
invariant_of-self-in-Some c =
    let rows = c.self.inside.records.items in
    let claim = c.args.claim.now in
    let held = c.self.invariant.names in
    record {
      rows = record {
        rises = subst (λ (rs : List Claim). Rises name_cmp (map name_of rs)) (sym c.add.ensures.rows)
            (rises-put_row names_order name_of claim rows c.self.invariant.rows.rises);
        counted = c.add.ensures.counted;
      };
      names =
          numbered-same (keys-added c) c.give_slot.ensures.slots c.give_slot.ensures.indexes
          (numbered-inserted held claim.name c.in-Err.field-0 (within-rows c) c.in-Some.free
          (found c) (unknown-name c));
    }

pub returns-in-Some-clause-hearing : goal.returns-in-Some-clause-hearing
returns-in-Some-clause-hearing c =
    let forgets = c.self.inside.forgets in
    let rows = c.self.inside.records.items in
    let claim = c.args.claim.now in
    sym (ap (λ b. cond b Overrode (standing_hearing forgets claim (row_at name_cmp name_of claim.name rows))) (taken-added c))
    ∙ ap (λ (k : MembersValue). hearing_of k.forgets k.table claim) c.self.view_is

pub returns-in-Some-clause-members : goal.returns-in-Some-clause-members
returns-in-Some-clause-members c = members-added c

pub returns-in-Some-clause-kept : goal.returns-in-Some-clause-kept
returns-in-Some-clause-kept c =
    let k = c.args.self.now in
    heard-kept (takes k.forgets k.table c.args.claim.now) k.names _ c.args.claim.now
    (ap (λ (m : MembersValue). m.names) (members-added c))

pub returns-in-Some-clause-past : goal.returns-in-Some-clause-past
returns-in-Some-clause-past c = λ past e.
    let k = c.args.self.now in
    members-added c ∙ ap (λ m. members_heard m c.args.claim.now) e
    ∙ heard-past k.forgets k.own c.args.claim.now past c.requires

pub returns-in-Some-clause-oneself : goal.returns-in-Some-clause-oneself
returns-in-Some-clause-oneself c = heard-oneself c.args.self.now.forgets c.args.self.now.own

pub returns-in-Some-clause-leave : goal.returns-in-Some-clause-leave
returns-in-Some-clause-leave c = known-leaves c.args.self.now.forgets c.args.self.now.own
