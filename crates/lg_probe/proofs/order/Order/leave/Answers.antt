use Rattle.std.proofs.Common.{length, refl, sym, ap, ◌∙◌, subst, arith}
use Rattle.lg_bit_set.specs.Meaning.Flags.{closed_flags}
use Rattle.lg_probe.specs.Meaning.Order.{Left, order_with}
use Rattle.lg_probe.specs.Support.Order.{Keeps}
use Rattle.lg_probe.proofs.Keeping.{IsAt, WouldBeAt, changed, kept, kept_is, left_chosen, left_forgotten, left_unknown}
use Rattle.lg_probe.proofs.order.Order.leave.Goals as goal

-- a name that was chosen
stays : (c : goal.Else-not-contains)
    → Keeps (order_with c.args.self.now
    (Left c.args.name.now)) c.self.inside.known.items c.remove.new.self c.self.inside.chosen
stays c =
    let name = c.args.name.now in
    let has = subst (λ xs. IsAt name xs c.in-Ok.at) c.as_slice.ensures.value c.in-Ok.ensures in
    changed (ap (λ o. order_with o (Left name)) c.self.view_is) refl c.remove.ensures.flags refl
    (left_chosen c.self.invariant name c.in-Ok.at has (sym c.contains.ensures.flag ∙ c.if-not-contains.false))

pub invariant_of-self-else-not-contains : goal.invariant_of-self-else-not-contains
invariant_of-self-else-not-contains c = kept (stays c)

pub returns-else-not-contains-clause-order : goal.returns-else-not-contains-clause-order
returns-else-not-contains-clause-order c = kept_is (stays c)

pub returns-else-not-contains-clause-past : goal.returns-else-not-contains-clause-past
returns-else-not-contains-clause-past c = λ past e. kept_is (stays c) ∙ ap (λ o. order_with o (Left c.args.name.now)) e

-- a name that wasn't
goes : (c : goal.After-close-then-not-contains)
    → Keeps (order_with c.args.self.now
    (Left c.args.name.now)) c.remove-then-not-contains.new.self.items c.close.new.self
    c.close-then-not-contains.new.self
goes c =
    let name = c.args.name.now in
    let at = c.in-Ok.at in
    let has = subst (λ xs. IsAt name xs at) c.as_slice.ensures.value c.in-Ok.ensures in
    changed (ap (λ o. order_with o (Left name)) c.self.view_is) c.remove-then-not-contains.ensures.items
    (c.close.ensures.flags ∙ ap (closed_flags at) c.remove.ensures.flags) c.close-then-not-contains.ensures.flags
    (left_forgotten c.self.invariant name at
    (omega (arith, c.as_slice.ensures.fits, ap length c.as_slice.ensures.value)) has
    (sym c.contains.ensures.flag ∙ c.if-not-contains.true))

pub invariant_of-self : goal.invariant_of-self
invariant_of-self c = kept (goes c)

pub returns-then-not-contains-clause-order : goal.returns-then-not-contains-clause-order
returns-then-not-contains-clause-order c = kept_is (goes c)

pub returns-then-not-contains-clause-past : goal.returns-then-not-contains-clause-past
returns-then-not-contains-clause-past c = λ past e. kept_is (goes c) ∙ ap (λ o. order_with o (Left c.args.name.now)) e

-- a name that isn't known
pub returns-in_default-clause-order : goal.returns-in_default-clause-order
returns-in_default-clause-order c =
    let name = c.args.name.now in
    let lacks = subst (λ xs. WouldBeAt name xs c.in_default.field-0) c.as_slice.ensures.value c.in_default.ensures in
    sym c.self.view_is ∙ left_unknown c.self.invariant name c.in_default.field-0 lacks
    ∙ ap (λ o. order_with o (Left name)) c.self.view_is

pub returns-in_default-clause-past : goal.returns-in_default-clause-past
returns-in_default-clause-past c =
    λ past e. returns-in_default-clause-order c ∙ ap (λ o. order_with o (Left c.args.name.now)) e
