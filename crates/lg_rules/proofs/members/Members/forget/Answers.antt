use Rattle.std.proofs.Common.{◌≡◌, ◌≢◌, ◌<◌, ℕ, true, false, cond, ap, ◌∙◌, sym, subst, map, length, List, [], Some, None, arith, get_or}
use Rattle.std.specs.List.{remove}
use Rattle.std.proofs.lemmas.List.{length-map, get_or_default}
use Rattle.lg_rules.specs.declared.claim.Claim.{Claim}
use Rattle.lg_rules.specs.Meaning.Claim.{name_of}
use Rattle.lg_rules.specs.Meaning.Rows.{name_cmp, is_same, without_row, Rises}
use Rattle.lg_rules.specs.Meaning.Slots.{freed, is_held, slot_in}
use Rattle.lg_rules.specs.Meaning.Table.{MembersValue, members_forgot}
use Rattle.lg_rules.specs.Support.Places.{HasRow, LacksRow}
use Rattle.lg_rules.specs.Support.Slots.{held_names}
use Rattle.lg_rules.proofs.KeyOrder.{names_order, names_equal, names_differ, same_key, other_key}
use Rattle.lg_rules.proofs.Naming.{forgot-past}
use Rattle.lg_rules.proofs.Numbering.{key-at, keys-apart, length-slots, map-remove, numbered-at, numbered-same, unknown}
use Rattle.lg_rules.proofs.Removing.{removed-row, rises-without, without-missing}
use Rattle.lg_rules.proofs.Renumbering.{names-removed, numbered-removed}
use Rattle.lg_rules.proofs.SlotLaws.{freed-none, slot-freed, slot-gone, slot-none}
use Rattle.lg_rules.proofs.members.Members.forget.Goals as goal

-- what a table knows once it forgot a name that isn't its own
abbrev after-other : MembersValue → List ℕ → MembersValue
after-other k n = record k { table = without_row name_cmp name_of n k.table; names = freed n k.names }

-- the name is known
has-row : (c : goal.After-take_slot)
    → HasRow name_cmp name_of c.args.name.now c.self.inside.records.items c.in-Ok.at
has-row c = c.in-Ok.ensures

within-keys : (c : goal.After-take_slot) → c.in-Ok.at < length (map name_of c.self.inside.records.items)
within-keys c = omega (arith, (has-row c).within, length-map c.self.inside.records.items name_of)

other-name : (c : goal.After-take_slot) → c.self.inside.own ≢ c.args.name.now
other-name c e = names_differ c.args.name.now c.self.inside.own (sym c.eq.ensures ∙ c.if-eq.false) (sym e)

other-now : (c : goal.After-take_slot) → is_same name_cmp c.args.name.now c.args.self.now.own ≡ false
other-now c =
    ap (λ (k : MembersValue). is_same name_cmp c.args.name.now k.own) (sym c.self.view_is)
    ∙ other_key names_order c.args.name.now c.self.inside.own (λ e. other-name c (sym e))

named : (c : goal.After-take_slot) → get_or (map name_of c.self.inside.records.items) c.in-Ok.at [] ≡ c.args.name.now
named c = key-at name_of c.args.name.now c.self.inside.records.items c.in-Ok.at (has-row c)

pub take_slot-requires-clause-within : goal.take_slot-requires-clause-within
take_slot-requires-clause-within c =
    let rows = c.self.inside.records.items in
    let has : HasRow name_cmp name_of c.args.name.now rows c.in-Ok.at = c.in-Ok.ensures in
    omega (arith, has.within, length-map rows name_of, length-slots c.self.invariant.names)

pub take_slot-requires-clause-few : goal.take_slot-requires-clause-few
take_slot-requires-clause-few c = omega (arith, c.self.invariant.names.few, length-slots c.self.invariant.names)

rows-left : (c : goal.After-take_slot)
    → c.take_out.new.records.items ≡ without_row name_cmp name_of c.args.name.now c.self.inside.records.items
rows-left c =
    c.take_out.ensures.rows
    ∙ removed-row names_order name_of c.args.name.now c.self.inside.records.items c.in-Ok.at
    c.self.invariant.rows.rises (has-row c)

keys-left : (c : goal.After-take_slot)
    → map name_of c.take_out.new.records.items ≡ remove (map name_of c.self.inside.records.items) c.in-Ok.at
keys-left c =
    ap (map name_of) c.take_out.ensures.rows ∙ map-remove name_of c.self.inside.records.items c.in-Ok.at

names-left : (c : goal.After-take_slot)
    → held_names c.self.inside.own (map name_of c.take_out.new.records.items) c.take_slot.new.indexes
    ≡ freed c.args.name.now c.args.self.now.names
names-left c =
    let own = c.self.inside.own in
    let n = c.args.name.now in
    (λ i. held_names own (keys-left c i) (c.take_slot.ensures.indexes i))
    ∙ names-removed c.self.invariant.names c.self.invariant.rows.rises n c.in-Ok.at (within-keys c)
    (named c) (other-name c)
    ∙ ap (λ (k : MembersValue). freed n k.names) c.self.view_is

pub invariant_of-self : goal.invariant_of-self
invariant_of-self c =
    let n = c.args.name.now in
    record {
      rows = record {
        rises = subst (λ (rs : List Claim). Rises name_cmp (map name_of rs)) (sym (rows-left c))
            (rises-without names_order name_of n c.self.inside.records.items c.self.invariant.rows.rises);
        counted = c.take_out.ensures.counted;
      };
      names =
          numbered-same (keys-left c) c.take_slot.ensures.slots c.take_slot.ensures.indexes
          (numbered-removed c.self.invariant.names c.self.invariant.rows.rises n c.in-Ok.at (within-keys c)
          (named c) (other-name c));
    }

pub returns-in-Ok-clause-slot : goal.returns-in-Ok-clause-slot
returns-in-Ok-clause-slot c =
    let n = c.args.name.now in
    let slots = c.self.inside.slots.items in
    let within : c.in-Ok.at < length slots =
    omega (arith, within-keys c, length-slots c.self.invariant.names) in
    ap Some (c.take_slot.ensures.slot ∙ get_or_default slots c.in-Ok.at c.take_slot.result 0 within)
    ∙ sym (numbered-at c.self.invariant.names n c.in-Ok.at (within-keys c) (named c))
    ∙ ap (λ (k : MembersValue). slot_in n k.names) c.self.view_is
    ∙ sym (ap (λ b. cond b None (slot_in n c.args.self.now.names)) (other-now c))

members-left : (c : goal.After-take_slot)
    → ◌≡◌ {A = MembersValue} record {
      own = c.self.inside.own;
      forgets = c.self.inside.forgets;
      table = c.take_out.new.records.items;
      names = held_names c.self.inside.own (map name_of c.take_out.new.records.items) c.take_slot.new.indexes;
    } (members_forgot c.args.name.now c.args.self.now)
members-left c =
    let n = c.args.name.now in
    let k = c.args.self.now in
    let own = ap (λ (m : MembersValue). m.own) c.self.view_is in
    let forgets = ap (λ (m : MembersValue). m.forgets) c.self.view_is in
    let table = rows-left c ∙ ap (λ (m : MembersValue). without_row name_cmp name_of n m.table) c.self.view_is in
    (λ i. record { own = own i; forgets = forgets i; table = table i; names = names-left c i })
    ∙ sym (ap (λ b. cond b k (after-other k n)) (other-now c))

pub returns-in-Ok-clause-members : goal.returns-in-Ok-clause-members
returns-in-Ok-clause-members c = members-left c

pub returns-in-Ok-clause-past : goal.returns-in-Ok-clause-past
returns-in-Ok-clause-past c = λ past e.
    let k = c.args.self.now in
    members-left c ∙ ap (members_forgot c.args.name.now) e ∙ forgot-past k.forgets k.own c.args.name.now past

pub returns-in-Ok-clause-gone : goal.returns-in-Ok-clause-gone
returns-in-Ok-clause-gone c = λ other.
    let n = c.args.name.now in
    ap (slot_in n) (names-left c) ∙ slot-gone n c.args.self.now.names

pub returns-in-Ok-clause-others : goal.returns-in-Ok-clause-others
returns-in-Ok-clause-others c = λ other d.
    let n = c.args.name.now in
    ap (slot_in other) (names-left c) ∙ slot-freed n other c.args.self.now.names d

-- the name is unknown
lacks-row : (c : goal.In-Err) → LacksRow name_cmp name_of c.args.name.now c.self.inside.records.items c.in-Err.field-0
lacks-row c = c.in-Err.ensures

no-slot : (c : goal.In-Err) → is_held c.args.name.now c.args.self.now.names ≡ false
no-slot c =
    let n = c.args.name.now in
    let rows = c.self.inside.records.items in
    let other = names_differ n c.self.inside.own (sym c.eq.ensures ∙ c.if-eq.false) in
    let apart = keys-apart name_of n rows c.self.invariant.rows.rises (lacks-row c).missing in
    sym (ap (λ (k : MembersValue). is_held n k.names) c.self.view_is)
    ∙ unknown c.self.invariant.names n (λ e. other (sym e)) apart

unknown-now : (c : goal.In-Err) → is_same name_cmp c.args.name.now c.args.self.now.own ≡ false
unknown-now c =
    ap (λ (k : MembersValue). is_same name_cmp c.args.name.now k.own) (sym c.self.view_is)
    ∙ other_key names_order c.args.name.now c.self.inside.own
    (names_differ c.args.name.now c.self.inside.own (sym c.eq.ensures ∙ c.if-eq.false))

pub returns-in-Err-clause-slot : goal.returns-in-Err-clause-slot
returns-in-Err-clause-slot c =
    let n = c.args.name.now in
    let names = c.args.self.now.names in
    sym (ap (λ b. cond b None (slot_in n names)) (unknown-now c) ∙ slot-none n names (no-slot c))

pub returns-in-Err-clause-gone : goal.returns-in-Err-clause-gone
returns-in-Err-clause-gone c = λ other. slot-none c.args.name.now c.args.self.now.names (no-slot c)

members-same : (c : goal.In-Err) → c.args.self.now ≡ members_forgot c.args.name.now c.args.self.now
members-same c =
    let n = c.args.name.now in
    let before = c.args.self.now in
    let rows = c.self.inside.records.items in
    let kept : rows ≡ without_row name_cmp name_of n rows =
    sym (without-missing names_order name_of n rows c.self.invariant.rows.rises (lacks-row c).missing) in
    let table : before.table ≡ without_row name_cmp name_of n before.table =
    subst (λ (k : MembersValue). k.table ≡ without_row name_cmp name_of n k.table) c.self.view_is kept in
    (λ i. record before { table = table i; names = sym (freed-none n before.names (no-slot c)) i })
    ∙ sym (ap (λ b. cond b before (after-other before n)) (unknown-now c))

pub returns-in-Err-clause-members : goal.returns-in-Err-clause-members
returns-in-Err-clause-members c = members-same c

pub returns-in-Err-clause-past : goal.returns-in-Err-clause-past
returns-in-Err-clause-past c = λ past e.
    let k = c.args.self.now in
    members-same c ∙ ap (members_forgot c.args.name.now) e ∙ forgot-past k.forgets k.own c.args.name.now past

-- it is this member's own
oneself : (c : goal.Then-eq) → is_same name_cmp c.args.name.now c.args.self.now.own ≡ true
oneself c =
    same_key names_order c.args.name.now c.args.self.now.own
    (names_equal c.args.name.now c.self.inside.own (sym c.eq.ensures ∙ c.if-eq.true)
    ∙ ap (λ (k : MembersValue). k.own) c.self.view_is)

pub returns-then-eq-clause-slot : goal.returns-then-eq-clause-slot
returns-then-eq-clause-slot c = sym (ap (λ b. cond b None (slot_in c.args.name.now c.args.self.now.names)) (oneself c))

members-own : (c : goal.Then-eq) → c.args.self.now ≡ members_forgot c.args.name.now c.args.self.now
members-own c =
    sym (ap (λ b. cond b c.args.self.now (after-other c.args.self.now c.args.name.now)) (oneself c))

pub returns-then-eq-clause-members : goal.returns-then-eq-clause-members
returns-then-eq-clause-members c = members-own c

pub returns-then-eq-clause-past : goal.returns-then-eq-clause-past
returns-then-eq-clause-past c = λ past e.
    let k = c.args.self.now in
    members-own c ∙ ap (members_forgot c.args.name.now) e ∙ forgot-past k.forgets k.own c.args.name.now past

pub returns-then-eq-clause-gone : goal.returns-then-eq-clause-gone
returns-then-eq-clause-gone c = λ other.
    absurd (other (names_equal c.args.name.now c.self.inside.own (sym c.eq.ensures ∙ c.if-eq.true)
    ∙ ap (λ (k : MembersValue). k.own) c.self.view_is))
