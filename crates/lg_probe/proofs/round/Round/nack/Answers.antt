use Rattle.std.proofs.Common.{◌≡◌, ap, ◌∙◌}
use Rattle.lg_bit_set.specs.Meaning.Flags.{entries_in}
use Rattle.lg_probe.specs.Meaning.Order.{without}
use Rattle.lg_probe.specs.Meaning.Round.{Nacked, RoundValue, round_with}
use Rattle.lg_probe.proofs.RoundLaws.{nacked_after, nacked_with}
use Rattle.lg_probe.proofs.round.Round.nack.Goals as goal

pub returns-clause-round : goal.returns-clause-round
returns-clause-round c =
    let fact = Nacked c.args.number c.args.sender.now in
    let asked = c.self.inside.asked.items in
    let before : RoundValue =
    record {
      number = c.self.inside.number;
      target = c.self.inside.target;
      asked = asked;
      silent =
          entries_in c.self.inside.silent asked;
      acked = c.self.inside.acked;
    } in
    let left : entries_in c.take_out.new.numbers asked ≡ without c.args.sender.now before.silent =
    rw (← c.as_slice.ensures.value) c.take_out.ensures.left in
    let silent = left ∙ nacked_with before c.args.number c.args.sender.now c.if-number-self.false in
    (λ i. record {
      number = before.number;
      target = before.target;
      asked = asked;
      silent = silent i;
      acked =
          before.acked;
    })
    ∙ ap (λ r. round_with r fact) c.self.view_is

pub returns-clause-past : goal.returns-clause-past
returns-clause-past c =
    let fact = Nacked c.args.number c.args.sender.now in
    λ past e. returns-clause-round c ∙ ap (λ r. round_with r fact) e
    ∙ nacked_after c.args.self.now.number c.args.self.now.target past c.args.number c.args.sender.now
