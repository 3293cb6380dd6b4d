use Rattle.std.proofs.Common.{◌≡◌, ◌++◌, ap, sym, ◌∙◌, subst, List, Bool, arith}
use Rattle.lg_bit_set.specs.Meaning.Flags.{flags_below}
use Rattle.lg_probe.specs.Meaning.Round.{Asked, round_with}
use Rattle.lg_probe.specs.Support.Order.{IsPart}
use Rattle.lg_probe.proofs.Parts.{part_all, part_is, part_self}
use Rattle.lg_probe.proofs.RoundLaws.{asked_after}
use Rattle.lg_probe.proofs.round.Round.ask.Goals as goal

all : (c : goal.After-self-1) → IsPart c.push_all.new.row.items c.push_all.new.row.items c.below-self-inside.result
all c =
    let row = c.push_all.new.row.items in
    subst (λ (f : List Bool). IsPart row row f) (sym (c.below-self-inside.ensures ∙ ap flags_below c.len.ensures.value))
    (part_all row (omega (arith, c.len.ensures.value, c.len.ensures.fits)))

pub invariant_of-self : goal.invariant_of-self
invariant_of-self c = part_self (all c)

asked : (c : goal.After-self-1) → c.push_all.new.row.items ≡ c.args.helpers.now
asked c = c.push_all.ensures ∙ (λ i. c.clear.ensures i ++ c.names.ensures.names i)

pub returns-clause-round : goal.returns-clause-round
returns-clause-round c =
    let new = c.push_all.new.row.items in
    (λ i. record {
      number = c.self.inside.number;
      target = c.self.inside.target;
      asked = new;
      silent =
          part_is (all c) i;
      acked = c.self.inside.acked;
    })
    ∙ (λ i. record {
      number = c.self.inside.number;
      target = c.self.inside.target;
      asked = asked c i;
      silent =
          asked c i;
      acked = c.self.inside.acked;
    })
    ∙ ap (λ r. round_with r (Asked c.args.helpers.now)) c.self.view_is

pub returns-clause-past : goal.returns-clause-past
returns-clause-past c =
    λ past e. returns-clause-round c ∙ ap (λ r. round_with r (Asked c.args.helpers.now)) e
    ∙ asked_after c.args.self.now.number c.args.self.now.target past c.args.helpers.now
