use Rattle.std.proofs.Common.{length, sym, ap, ◌∙◌, subst, arith}
use Rattle.lg_bit_set.specs.Meaning.Flags.{closed_flags}
use Rattle.lg_probe.specs.Meaning.Order.{Forgot, order_with}
use Rattle.lg_probe.specs.Support.Order.{Keeps}
use Rattle.lg_probe.proofs.Keeping.{IsAt, WouldBeAt, changed, kept, kept_is, out_of_both, forgot_unknown}
use Rattle.lg_probe.proofs.OrderLaws.{forgot_after}
use Rattle.lg_probe.proofs.order.Order.forget.Goals as goal
use Rattle.lg_probe.proofs.order.Order.forget.Goals.{After-close-in-Ok}

goes : (c : After-close-in-Ok)
    → Keeps (order_with c.args.self.now
    (Forgot c.args.name.now)) c.remove-in-Ok-2.new.self.items c.close.new.self c.close-in-Ok.new.self
goes c =
    let name = c.args.name.now in
    let at = c.in-Ok.at in
    let has = subst (λ xs. IsAt name xs at) c.as_slice.ensures.value c.in-Ok.ensures in
    changed (ap (λ o. order_with o (Forgot name)) c.self.view_is) c.remove-in-Ok-2.ensures.items
    (c.close.ensures.flags ∙ ap (closed_flags at) c.remove.ensures.flags)
    (c.close-in-Ok.ensures.flags ∙ ap (closed_flags at) c.remove-in-Ok.ensures.flags)
    (out_of_both c.self.invariant name at
    (omega (arith, c.as_slice.ensures.fits, ap length c.as_slice.ensures.value)) has)

pub invariant_of-self : goal.invariant_of-self
invariant_of-self c = kept (goes c)

pub returns-in-Ok-clause-order : goal.returns-in-Ok-clause-order
returns-in-Ok-clause-order c = kept_is (goes c)

pub returns-in-Ok-clause-past : goal.returns-in-Ok-clause-past
returns-in-Ok-clause-past c =
    λ past e. kept_is (goes c) ∙ ap (λ o. order_with o (Forgot c.args.name.now)) e ∙ forgot_after c.args.name.now past

-- a name that isn't known
pub returns-in_default-clause-order : goal.returns-in_default-clause-order
returns-in_default-clause-order c =
    let name = c.args.name.now in
    let lacks = subst (λ xs. WouldBeAt name xs c.in_default.field-0) c.as_slice.ensures.value c.in_default.ensures in
    sym c.self.view_is ∙ forgot_unknown c.self.invariant name c.in_default.field-0 lacks
    ∙ ap (λ o. order_with o (Forgot name)) c.self.view_is

pub returns-in_default-clause-past : goal.returns-in_default-clause-past
returns-in_default-clause-past c =
    λ past e. returns-in_default-clause-order c ∙ ap (λ o. order_with o (Forgot c.args.name.now)) e ∙ forgot_after c.args.name.now past
