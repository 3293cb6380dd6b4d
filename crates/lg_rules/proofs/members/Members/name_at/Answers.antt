use Rattle.std.proofs.Common.{◌≡◌, ◌≢◌, ◌<◌, ◌≤◌, ◌-◌, suc, ℕ, ap, ◌∙◌, sym, subst, map, length, []}
use Rattle.std.proofs.Common.{arith, Some, None, get_or}
use Rattle.std.proofs.lemmas.List.{length-map, get_or-map}
use Rattle.std.proofs.lemmas.Bool.{eqb-true, eqb-false}
use Rattle.lg_rules.specs.declared.claim.Claim.{Claim}
use Rattle.lg_rules.specs.Meaning.Claim.{name_of}
use Rattle.lg_rules.specs.Meaning.Table.{MembersValue}
use Rattle.lg_rules.specs.Support.Slots.{AreHeldOnce, held_names}
use Rattle.lg_rules.proofs.Numbering.{name-at, name-free}
use Rattle.lg_rules.proofs.SlotLaws.{named-slot}
use Rattle.lg_rules.proofs.members.Members.name_at.Goals as goal

behind-own : (slot own number other : ℕ) → slot ≢ own → own ≡ 0 → number ≡ slot → other ≡ number
    → slot ≡ suc (other - 1)
behind-own slot own number other d o n e = omega (arith, d, o, n, e)

pub returns-then-eq-clause-name : goal.returns-then-eq-clause-name
returns-then-eq-clause-name c =
    let names = held_names c.self.inside.own (map name_of c.self.inside.records.items) c.self.inside.indexes in
    let first : c.args.slot ≡ 0 = eqb-true c.args.slot c.own.result (sym c.eq.ensures ∙ c.if-eq.true) ∙ c.own.ensures in
    sym (ap (λ s. get_or names s None) first)
    ∙ ap (λ (k : MembersValue). get_or k.names c.args.slot None) c.self.view_is

pub returns-then-eq-clause-slot : goal.returns-then-eq-clause-slot
returns-then-eq-clause-slot c =
    let once : AreHeldOnce c.args.self.now.names =
    subst (λ (k : MembersValue). AreHeldOnce k.names) c.self.view_is c.self.invariant.names.once in
    λ name e. named-slot name c.args.self.now.names c.args.slot once (sym (returns-then-eq-clause-name c) ∙ e)

pub returns-then-index-len-clause-name : goal.returns-then-index-len-clause-name
returns-then-index-len-clause-name c =
    let rows = c.self.inside.records.items in
    let keys = map name_of rows in
    let indexes = c.self.inside.indexes in
    let other = c.from.result - 1 in
    let behind : c.args.slot ≡ suc other =
    behind-own c.args.slot c.own.result c.number.result c.from.result
    (eqb-false c.args.slot c.own.result (sym c.eq.ensures
    ∙ c.if-eq.false)) c.own.ensures c.number.ensures c.from.ensures in
    let index : get_or indexes other 0 ≡ c.from-index.result = sym c.from-index.ensures in
    let there : c.from-index.result < length rows = omega (arith, c.if-index-len.true, c.len.ensures.len) in
    let within : other < length indexes =
    omega (arith, c.self.invariant.names.count, c.number.ensures, c.from.ensures) in
    let read = c.index.result.now in
    ap (λ (r : Claim). Some (name_of r)) c.index.ensures
    ∙ ap Some (sym (get_or-map name_of rows c.from-index.result read [] there)
    ∙ ap (λ i. get_or keys i []) (sym index))
    ∙ sym (name-at c.self.inside.own keys indexes c.args.slot other behind within
    (omega (arith, index, there, length-map rows name_of)))
    ∙ ap (λ (k : MembersValue). get_or k.names c.args.slot None) c.self.view_is

pub returns-then-index-len-clause-slot : goal.returns-then-index-len-clause-slot
returns-then-index-len-clause-slot c =
    let once : AreHeldOnce c.args.self.now.names =
    subst (λ (k : MembersValue). AreHeldOnce k.names) c.self.view_is c.self.invariant.names.once in
    λ name e. named-slot name c.args.self.now.names c.args.slot once (sym (returns-then-index-len-clause-name c) ∙ e)

pub returns-else-index-len-clause-name : goal.returns-else-index-len-clause-name
returns-else-index-len-clause-name c =
    let rows = c.self.inside.records.items in
    let keys = map name_of rows in
    let indexes = c.self.inside.indexes in
    let other = c.from.result - 1 in
    let behind : c.args.slot ≡ suc other =
    behind-own c.args.slot c.own.result c.number.result c.from.result
    (eqb-false c.args.slot c.own.result (sym c.eq.ensures
    ∙ c.if-eq.false)) c.own.ensures c.number.ensures c.from.ensures in
    let index : get_or indexes other 0 ≡ c.from-index.result = sym c.from-index.ensures in
    let past : length keys ≤ get_or indexes other 0 =
    omega (arith, index, c.if-index-len.false, c.len.ensures.len, length-map rows name_of) in
    let within : other < length indexes =
    omega (arith, c.self.invariant.names.count, c.number.ensures, c.from.ensures) in
    sym (name-free c.self.inside.own keys indexes c.args.slot other behind within past)
    ∙ ap (λ (k : MembersValue). get_or k.names c.args.slot None) c.self.view_is
