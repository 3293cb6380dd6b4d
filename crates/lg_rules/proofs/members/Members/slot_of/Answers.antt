use Rattle.std.proofs.Common.{◌≡◌, ◌≢◌, ◌<◌, ℕ, ap, ◌∙◌, sym, subst, map, length, List, arith, Some, get_or}
use Rattle.std.specs.Prelude.{slice_get}
use Rattle.std.proofs.lemmas.List.{length-map, get_or_default}
use Rattle.lg_rules.specs.declared.claim.Claim.{Claim}
use Rattle.lg_rules.specs.Meaning.Claim.{name_of}
use Rattle.lg_rules.specs.Meaning.Rows.{name_cmp}
use Rattle.lg_rules.specs.Meaning.Table.{MembersValue, slot_in}
use Rattle.lg_rules.specs.Support.Places.{HasRow, LacksRow}
use Rattle.lg_rules.specs.Support.Slots.{held_names}
use Rattle.lg_rules.proofs.KeyOrder.{names_equal, names_differ}
use Rattle.lg_rules.proofs.Numbering.{key-at, keys-apart, length-slots, numbered-at, unknown}
use Rattle.lg_rules.proofs.SlotLaws.{Slots, slot-alone, slot-first, slot-named, slot-none}
use Rattle.lg_rules.proofs.members.Members.slot_of.Goals as goal

-- the slots behind the own one
abbrev others : List Claim → List ℕ → Slots
others rows indexes = map (slice_get (map name_of rows)) indexes

pub returns-in-Ok-clause-slot : goal.returns-in-Ok-clause-slot
returns-in-Ok-clause-slot c =
    let rows = c.self.inside.records.items in
    let slots = c.self.inside.slots.items in
    let n = c.args.name.now in
    let has : HasRow name_cmp name_of n rows c.in-Ok.at = c.in-Ok.ensures in
    let within : c.in-Ok.at < length (map name_of rows) = omega (arith, has.within, length-map rows name_of) in
    let within' : c.in-Ok.at < length slots = omega (arith, within, length-slots c.self.invariant.names) in
    let is : c.index-deref-at.result ≡ get_or slots c.in-Ok.at 0 =
    c.index-deref-at.is ∙ ap (λ (xs : List ℕ). get_or xs c.in-Ok.at c.index-deref-at.result) c.deref.ensures.0
    ∙ get_or_default slots c.in-Ok.at c.index-deref-at.result 0 within' in
    ap Some is
    ∙ sym (numbered-at c.self.invariant.names n c.in-Ok.at within (key-at name_of n rows c.in-Ok.at has))
    ∙ ap (λ (k : MembersValue). slot_in n k.names) c.self.view_is

pub returns-in-Ok-clause-own : goal.returns-in-Ok-clause-own
returns-in-Ok-clause-own c =
    subst (λ (k : MembersValue). slot_in k.own k.names ≡ Some 0) c.self.view_is (slot-first c.self.inside.own (others c.self.inside.records.items c.self.inside.indexes))

pub returns-in-Ok-clause-named : goal.returns-in-Ok-clause-named
returns-in-Ok-clause-named c =
    λ slot e. slot-named c.args.name.now c.args.self.now.names slot (sym (returns-in-Ok-clause-slot c) ∙ e)

pub returns-in-Ok-clause-alone : goal.returns-in-Ok-clause-alone
returns-in-Ok-clause-alone c =
    λ slot other e. slot-alone c.args.name.now other c.args.self.now.names slot (sym (returns-in-Ok-clause-slot c) ∙ e)

pub returns-in-Err-clause-slot : goal.returns-in-Err-clause-slot
returns-in-Err-clause-slot c =
    let own = c.self.inside.own in
    let n = c.args.name.now in
    let names = held_names own (map name_of c.self.inside.records.items) c.self.inside.indexes in
    let is : n ≡ own = names_equal n own (sym c.eq.ensures ∙ c.if-eq.true) in
    ap Some c.own.ensures
    ∙ sym (ap (λ k. slot_in k names) is ∙ slot-first own (others c.self.inside.records.items c.self.inside.indexes))
    ∙ ap (λ (k : MembersValue). slot_in n k.names) c.self.view_is

pub returns-in-Err-clause-own : goal.returns-in-Err-clause-own
returns-in-Err-clause-own c =
    subst (λ (k : MembersValue). slot_in k.own k.names ≡ Some 0) c.self.view_is (slot-first c.self.inside.own (others c.self.inside.records.items c.self.inside.indexes))

pub returns-in-Err-clause-named : goal.returns-in-Err-clause-named
returns-in-Err-clause-named c =
    λ slot e. slot-named c.args.name.now c.args.self.now.names slot (sym (returns-in-Err-clause-slot c) ∙ e)

pub returns-in-Err-clause-alone : goal.returns-in-Err-clause-alone
returns-in-Err-clause-alone c =
    λ slot other e. slot-alone c.args.name.now other c.args.self.now.names slot (sym (returns-in-Err-clause-slot c) ∙ e)

pub returns-in-Err-2-clause-slot : goal.returns-in-Err-2-clause-slot
returns-in-Err-2-clause-slot c =
    let own = c.self.inside.own in
    let rows = c.self.inside.records.items in
    let n = c.args.name.now in
    let at = c.in-Err.field-0 in
    let lacks : LacksRow name_cmp name_of n rows at = c.in-Err.ensures in
    let other : n ≢ own = names_differ n own (sym c.eq.ensures ∙ c.if-eq.false) in
    let apart = keys-apart name_of n rows c.self.invariant.rows.rises lacks.missing in
    sym (slot-none n (held_names own (map name_of rows) c.self.inside.indexes)
    (unknown c.self.invariant.names n (λ e. other (sym e)) apart))
    ∙ ap (λ (k : MembersValue). slot_in n k.names) c.self.view_is

pub returns-in-Err-2-clause-own : goal.returns-in-Err-2-clause-own
returns-in-Err-2-clause-own c =
    subst (λ (k : MembersValue). slot_in k.own k.names ≡ Some 0) c.self.view_is (slot-first c.self.inside.own (others c.self.inside.records.items c.self.inside.indexes))
