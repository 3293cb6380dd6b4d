use Rattle.std.proofs.Common.{◌≤◌, true, length, set, refl, sym, ap, ◌∙◌, subst, lit<}
use Rattle.lg_rules.specs.Meaning.Rows.{name_cmp, put_key}
use Rattle.lg_probe.specs.Meaning.Order.{OrderValue, Joined, known_names, order_with}
use Rattle.lg_probe.specs.Support.Order.{Keeps}
use Rattle.lg_probe.proofs.Keeping.{IsAt, WouldBeAt, changed, kept, kept_is, join_room, joined_known, joined_new}
use Rattle.lg_probe.proofs.order.Order.join.Goals as goal

-- a known name
known : (c : goal.After-insert)
    → Keeps (order_with c.args.self.now
    (Joined c.args.name.now)) c.self.inside.known.items c.insert.new.self c.self.inside.chosen
known c =
    let name = c.args.name.now in
    let has = subst (λ xs. IsAt name xs c.in-Ok.at) c.as_slice.ensures.value c.in-Ok.ensures in
    changed (ap (λ o. order_with o (Joined name)) c.self.view_is) refl c.insert.ensures.flags refl
    (joined_known c.self.invariant name c.in-Ok.at has)

pub invariant_of-self : goal.invariant_of-self
invariant_of-self c = kept (known c)

pub returns-in-Ok-clause-order : goal.returns-in-Ok-clause-order
returns-in-Ok-clause-order c = kept_is (known c)

pub returns-in-Ok-clause-past : goal.returns-in-Ok-clause-past
returns-in-Ok-clause-past c = λ past e. kept_is (known c) ∙ ap (λ o. order_with o (Joined c.args.name.now)) e

-- another name
pub insert-requires-in-Err : goal.insert-requires-in-Err
insert-requires-in-Err c =
    let name = c.args.name.now in
    let at = c.in-Err.at in
    let lacks = subst (λ xs. WouldBeAt name xs at) c.as_slice.ensures.value c.in-Err.ensures in
    let few = subst (λ (o : OrderValue). length (put_key name_cmp name (known_names o)) ≤ 255)
    (sym c.self.view_is) c.requires in
    (lit< tt, (lacks.within, join_room c.self.invariant name at 255 lacks few))

new : (c : goal.After-open-in-Err)
    → Keeps (order_with c.args.self.now
    (Joined c.args.name.now)) c.insert-in-Err.new.self.items c.insert-in-Err-2.new.self c.open-in-Err.new.self
new c =
    let name = c.args.name.now in
    let at = c.in-Err.at in
    let has = subst (λ xs. WouldBeAt name xs at) c.as_slice.ensures.value c.in-Err.ensures in
    let few = subst (λ (o : OrderValue). length (put_key name_cmp name (known_names o)) ≤ 255)
    (sym c.self.view_is) c.requires in
    let room = join_room c.self.invariant name at 255 has few in
    changed (ap (λ o. order_with o (Joined name)) c.self.view_is) c.insert-in-Err.ensures.items
    (c.insert-in-Err-2.ensures.flags ∙ ap (λ f. set f at true) c.open.ensures.flags) c.open-in-Err.ensures.flags
    (joined_new c.self.invariant name at room has)

pub invariant_of-self-in-Err : goal.invariant_of-self-in-Err
invariant_of-self-in-Err c = kept (new c)

pub returns-in-Err-clause-order : goal.returns-in-Err-clause-order
returns-in-Err-clause-order c = kept_is (new c)

pub returns-in-Err-clause-past : goal.returns-in-Err-clause-past
returns-in-Err-clause-past c = λ past e. kept_is (new c) ∙ ap (λ o. order_with o (Joined c.args.name.now)) e
