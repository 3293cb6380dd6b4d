use Rattle.std.proofs.Common.{Bool, not, ap, ◌∙◌, subst, sym}
use Rattle.std.specs.Prelude.{filter, position}
use Rattle.lg_probe.specs.declared.relays.Relay.{Relay}
use Rattle.lg_probe.specs.Support.Relays.{AreKeptRelays}
use Rattle.lg_probe.specs.Meaning.Relays.{Closed, has_number, is_open}
use Rattle.lg_probe.proofs.OpenRelays.{relays_after-push}
use Rattle.lg_probe.proofs.RelayLaws.{HasOne, has_one, HasNone, has_none}
use Rattle.lg_probe.proofs.UpTo.{kept-fewer}
use Rattle.lg_probe.proofs.relays.Relays.close.Goals as goal

one : (c : goal.After-remove) → HasOne (has_number c.args.number) c.self.inside.open.items c.in-Some.place
one c =
    let p = has_number c.args.number in
    has_one p c.args.number c.self.inside.open.items c.in-Some.place (λ r e. e) c.self.invariant.apart (ap (position p) (sym c.as_slice.ensures.value) ∙ sym c.place_of.ensures ∙ c.in-Some.is)

pub invariant_of-self : goal.invariant_of-self
invariant_of-self c =
    let left : Relay → Bool = λ r. not (has_number c.args.number r) in
    let relays = c.self.inside.open.items in
    subst (AreKeptRelays c.self.inside.greatest) ((one c).others ∙ sym c.remove.ensures.items) (kept-fewer left c.self.inside.greatest relays c.self.invariant)

pub returns-in-Some-clause-was_open : goal.returns-in-Some-clause-was_open
returns-in-Some-clause-was_open c = sym (ap (is_open c.args.number) (sym c.self.view_is) ∙ (one c).passes)

pub returns-in-Some-clause-relays : goal.returns-in-Some-clause-relays
returns-in-Some-clause-relays c = c.remove.ensures.items ∙ sym (one c).others ∙ ap (filter (λ (r : Relay). not (has_number c.args.number r))) c.self.view_is

pub returns-in-Some-clause-past : goal.returns-in-Some-clause-past
returns-in-Some-clause-past c = λ past e. returns-in-Some-clause-relays c ∙ ap (filter (λ (r : Relay). not (has_number c.args.number r))) e ∙ sym (relays_after-push (Closed c.args.number) past)

none : (c : goal.In-None) → HasNone (has_number c.args.number) c.args.self.now
none c =
    let p = has_number c.args.number in
    subst (HasNone p) c.self.view_is (has_none p c.self.inside.open.items (ap (position p) (sym c.as_slice.ensures.value) ∙ sym c.place_of.ensures ∙ c.in-None.is))

pub returns-in-None-clause-was_open : goal.returns-in-None-clause-was_open
returns-in-None-clause-was_open c = sym (none c).passes

pub returns-in-None-clause-relays : goal.returns-in-None-clause-relays
returns-in-None-clause-relays c = sym (none c).others

pub returns-in-None-clause-past : goal.returns-in-None-clause-past
returns-in-None-clause-past c = λ past e. sym (none c).others ∙ ap (filter (λ (r : Relay). not (has_number c.args.number r))) e ∙ sym (relays_after-push (Closed c.args.number) past)
