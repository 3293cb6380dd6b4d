use Rattle.std.proofs.Common.{◌≡◌, ◌≤◌, ◌<◌, ◌||◌, false, ap, sym, subst, ◌∙◌, arith}
use Rattle.lg_rules.specs.Meaning.Rows.{name_cmp, is_among}
use Rattle.lg_suspicion.specs.Meaning.Accusers.{accuser_counts, deadline_of}
use Rattle.lg_suspicion.specs.Support.Accusers.{has_slot}
use Rattle.lg_suspicion.specs.Meaning.Parts.{SuspicionParts, suspicion_by, IsKnownTo}
use Rattle.lg_suspicion.proofs.KnownAccusers.{parts_with}
use Rattle.lg_suspicion.proofs.Accusing.{IsNew, as_before, as_before-after, too_late, again_by_name, again}
use Rattle.lg_suspicion.proofs.Accusing.{counts, accused-with, known-more, after-with, earlier-with}
use Rattle.lg_suspicion.proofs.suspicion.Suspicion.accuse.Goals as goal
use Rattle.lg_suspicion.proofs.suspicion.Suspicion.accuse.Goals.{Then-accusers-confirmations, Then-is_named, Then-has_slot, After-add}

-- as many as may count do
is_late : (c : Then-accusers-confirmations)
    → accuser_counts (suspicion_by c.args.members.now.names c.args.self.now) c.args.accuser.now ≡ false
is_late c =
    let most = c.confirmations.ensures.confirmations
    ∙ ap (λ (p : SuspicionParts). p.timeout.confirmations) c.self.view_is in
    too_late c.args.members.now.names c.args.self.now c.args.accuser.now c.requires.known c.accusers.result
    c.accusers.ensures.count (subst (λ n. n < c.accusers.result) most c.if-accusers-confirmations.true)

pub returns-then-accusers-confirmations-clause-counted : goal.returns-then-accusers-confirmations-clause-counted
returns-then-accusers-confirmations-clause-counted c = λ past.
    let old = c.args.self.now in
    as_before-after (suspicion_by c.args.members.now.names old) old.raised old.timeout c.args.accuser.now past
    (is_late c)

-- its name is kept already
is_named : (c : Then-is_named)
    → accuser_counts (suspicion_by c.args.members.now.names c.args.self.now) c.args.accuser.now ≡ false
is_named c =
    again_by_name c.args.members.now.names c.args.self.now c.args.accuser.now c.requires.known
    (sym c.is_named.ensures ∙ c.if-is_named.true)

pub returns-then-is_named-clause-counts : goal.returns-then-is_named-clause-counts
returns-then-is_named-clause-counts c = sym (is_named c)

pub returns-then-is_named-clause-accused : goal.returns-then-is_named-clause-accused
returns-then-is_named-clause-accused c =
    as_before (suspicion_by c.args.members.now.names c.args.self.now) c.args.accuser.now (is_named c)

pub returns-then-is_named-clause-counted : goal.returns-then-is_named-clause-counted
returns-then-is_named-clause-counted c = λ past.
    let old = c.args.self.now in
    as_before-after (suspicion_by c.args.members.now.names old) old.raised old.timeout c.args.accuser.now past
    (is_named c)

-- its slot is kept already
is_there : (c : Then-has_slot)
    → accuser_counts (suspicion_by c.args.members.now.names c.args.self.now) c.args.accuser.now ≡ false
is_there c =
    let slot = c.slot_of-slot.result in
    let has = rw c.as_ref.ensures.value at c.has_slot.ensures in
    let has_here = sym (has ∙ ap (λ (p : SuspicionParts). has_slot slot p.members) c.self.view_is) in
    again c.args.members.now.names c.args.self.now c.args.accuser.now c.requires.known slot c.slot_of-slot.ensures.slot
    (ap (λ b. b || is_among name_cmp c.args.accuser.now c.args.self.now.named) (has_here ∙ c.if-has_slot.true))

pub returns-then-has_slot-clause-counts : goal.returns-then-has_slot-clause-counts
returns-then-has_slot-clause-counts c = sym (is_there c)

pub returns-then-has_slot-clause-accused : goal.returns-then-has_slot-clause-accused
returns-then-has_slot-clause-accused c =
    as_before (suspicion_by c.args.members.now.names c.args.self.now) c.args.accuser.now (is_there c)

pub returns-then-has_slot-clause-counted : goal.returns-then-has_slot-clause-counted
returns-then-has_slot-clause-counted c = λ past.
    let old = c.args.self.now in
    as_before-after (suspicion_by c.args.members.now.names old) old.raised old.timeout c.args.accuser.now past
    (is_there c)

-- it is new, and counts
is_new : (c : After-add)
    → IsNew c.args.members.now.names c.args.self.now c.args.accuser.now c.slot_of-slot.result
is_new c =
    let most = c.confirmations.ensures.confirmations
    ∙ ap (λ (p : SuspicionParts). p.timeout.confirmations) c.self.view_is in
    let slot = c.slot_of-slot.result in
    let has = rw c.as_ref.ensures.value at c.has_slot.ensures in
    let has_here = sym (has ∙ ap (λ (p : SuspicionParts). has_slot slot p.members) c.self.view_is) in
    record {
      known = c.requires.known;
      has = c.slot_of-slot.ensures.slot;
      new = λ i. (has_here ∙ c.if-has_slot.false) i || (sym c.is_named.ensures ∙ c.if-is_named.false) i;
      few = omega (arith, c.accusers.ensures.count, c.if-accusers-confirmations.false, most);
      long = c.accusers.ensures.size;
      below = c.add.ensures.number;
      most = omega (arith, c.confirmations.ensures.within, most);
      some = omega (arith, c.accusers.ensures.count, c.accusers.ensures.some);
    }

abbrev parts : (c : After-add) → SuspicionParts
parts c = record {
  raised = c.self.inside.raised;
  timeout = c.self.inside.timeout;
  members = c.add.new.members;
  named = c.add.new.named.items;
}

is_with : (c : After-add) → parts c ≡ parts_with c.slot_of-slot.result c.args.accuser.now c.args.self.now
is_with c =
    (λ i. record {
      raised = c.self.inside.raised;
      timeout = c.self.inside.timeout;
      members = c.add.ensures.members i;
      named = c.add.ensures.named i;
    })
    ∙ ap (parts_with c.slot_of-slot.result c.args.accuser.now) c.self.view_is

pub returns-clause-counts : goal.returns-clause-counts
returns-clause-counts c = sym (counts (is_new c))

pub returns-clause-accused : goal.returns-clause-accused
returns-clause-accused c = ap (suspicion_by c.args.members.now.names) (is_with c) ∙ accused-with (is_new c)

pub returns-clause-known : goal.returns-clause-known
returns-clause-known c = subst (IsKnownTo c.args.members.now.names) (sym (is_with c)) (known-more (is_new c))

pub returns-clause-never_later : goal.returns-clause-never_later
returns-clause-never_later c =
    let names = c.args.members.now.names in
    subst (λ p. deadline_of (suspicion_by names p) ≤ deadline_of (suspicion_by names c.args.self.now)) (sym (is_with c))
    (earlier-with (is_new c))

pub returns-clause-counted : goal.returns-clause-counted
returns-clause-counted c = λ past e.
    ap (suspicion_by c.args.members.now.names) (is_with c) ∙ after-with (is_new c) past e
