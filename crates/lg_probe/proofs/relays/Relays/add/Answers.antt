use Rattle.std.proofs.Common.{◌≡◌, None, List, [], ◌∷◌, ◌++◌, subst, sym, ap, ◌∙◌, rules}
use Rattle.lg_probe.specs.declared.relays.Relay.{Relay}
use Rattle.lg_probe.specs.Support.Relays.{AreKeptRelays}
use Rattle.lg_probe.proofs.UpTo.{up_to-opened}
use Rattle.lg_probe.specs.Meaning.Relays.{Opened, asker_at}
use Rattle.lg_probe.proofs.OpenRelays.{relays_after-push}
use Rattle.lg_probe.proofs.RelayLaws.{none_open, apart-opened}
use Rattle.lg_probe.proofs.relays.Relays.add.Goals as goal

pub invariant_of-self : goal.invariant_of-self
invariant_of-self c =
    let relay : Relay = record { number = c.args.number; target = c.args.target.now; asker = c.args.asker } in
    let free = subst (λ (rs : List Relay). asker_at c.args.number rs ≡ None) (sym c.self.view_is) c.requires.apart in
    let relays = c.self.inside.open.items in
    subst (AreKeptRelays c.max-self-inside.result) (sym c.push.ensures.items) (record {
      apart = apart-opened relays relay (none_open c.args.number relays free) c.self.invariant.apart;
      up_to = up_to-opened c.self.inside.greatest c.max-self-inside.result relay relays (search rules) (search rules) c.self.invariant.up_to;
    })

pub returns-clause-past : goal.returns-clause-past
returns-clause-past c = λ past e.
    let relay : Relay = record { number = c.args.number; target = c.args.target.now; asker = c.args.asker } in
    c.push.ensures.items ∙ ap (λ rs. rs ++ relay ∷ []) (c.self.view_is ∙ e) ∙ sym (relays_after-push (Opened relay) past)
