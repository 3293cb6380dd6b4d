use Rattle.std.proofs.Common.{Bool, not, refl, ap, ◌∙◌, subst, sym}
use Rattle.std.specs.Prelude.{filter, position}
use Rattle.std.specs.Option.{option_map}
use Rattle.std.proofs.lemmas.Option.{slice_get_read}
use Rattle.lg_probe.specs.declared.relays.Relay.{Relay}
use Rattle.lg_probe.specs.Support.Relays.{AreKeptRelays}
use Rattle.lg_probe.specs.Meaning.Relays.{TargetAcked, asker_of, is_ended, ended_asker}
use Rattle.lg_probe.proofs.OpenRelays.{relays_after-push}
use Rattle.lg_probe.proofs.UpTo.{kept-fewer}
use Rattle.lg_probe.proofs.RelayLaws.{ended_number, HasOne, has_one, HasNone, has_none}
use Rattle.lg_probe.proofs.relays.Relays.ack.Goals as goal

none : (c : goal.After-from_residual) → HasNone (is_ended c.args.number c.args.sender.now) c.args.self.now
none c =
    let p = is_ended c.args.number c.args.sender.now in
    subst (HasNone p) c.self.view_is (has_none p c.self.inside.open.items (ap (position p) (sym c.as_slice.ensures.value) ∙ sym c.place_ended.ensures ∙ c.in_err-place.was))

pub returns-in_err-place-clause-asker : goal.returns-in_err-place-clause-asker
returns-in_err-place-clause-asker c = c.from_residual.ensures ∙ sym (ap (option_map asker_of) (none c).found)

pub returns-in_err-place-clause-relays : goal.returns-in_err-place-clause-relays
returns-in_err-place-clause-relays c = sym (none c).others

pub returns-in_err-place-clause-past : goal.returns-in_err-place-clause-past
returns-in_err-place-clause-past c = λ past e. sym (none c).others ∙ ap (filter (λ (r : Relay). not (is_ended c.args.number c.args.sender.now r))) e ∙ sym (relays_after-push (TargetAcked c.args.number c.args.sender.now) past)

one :
    (c : goal.After-remove-relay)
    → HasOne (is_ended c.args.number c.args.sender.now) c.self.inside.open.items c.in_ok-place.place
one c =
    let p = is_ended c.args.number c.args.sender.now in
    has_one p c.args.number c.self.inside.open.items c.in_ok-place.place (ended_number c.args.number c.args.sender.now) c.self.invariant.apart (ap (position p) (sym c.as_slice.ensures.value) ∙ sym c.place_ended.ensures ∙ c.in_ok-place.was)

pub invariant_of-self : goal.invariant_of-self
invariant_of-self c =
    let left : Relay → Bool = λ r. not (is_ended c.args.number c.args.sender.now r) in
    let relays = c.self.inside.open.items in
    subst (AreKeptRelays c.self.inside.greatest) ((one c).others ∙ sym c.remove-relay.ensures.items) (kept-fewer left c.self.inside.greatest relays c.self.invariant)

pub returns-clause-asker : goal.returns-clause-asker
returns-clause-asker c =
    let relays = c.self.inside.open.items in
    let read = slice_get_read relays _ c.in_ok-place.place c.remove-relay.result refl (one c).within c.remove-relay.ensures.value in
    sym (ap (ended_asker c.args.number c.args.sender.now) (sym c.self.view_is) ∙ ap (option_map asker_of) ((one c).found ∙ read))

pub returns-clause-relays : goal.returns-clause-relays
returns-clause-relays c = c.remove-relay.ensures.items ∙ sym (one c).others ∙ ap (filter (λ (r : Relay). not (is_ended c.args.number c.args.sender.now r))) c.self.view_is

pub returns-clause-past : goal.returns-clause-past
returns-clause-past c = λ past e. returns-clause-relays c ∙ ap (filter (λ (r : Relay). not (is_ended c.args.number c.args.sender.now r))) e ∙ sym (relays_after-push (TargetAcked c.args.number c.args.sender.now) past)
