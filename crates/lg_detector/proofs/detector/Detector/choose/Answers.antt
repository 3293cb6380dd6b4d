use Rattle.std.proofs.Common.{◌≡◌, ◌+◌, Option, ap, sym, subst, ◌∙◌, arith}
use Rattle.lg_detector.specs.Support.Kept.{state_in}
use Rattle.lg_detector.specs.Support.Reached.{IsReached}
use Rattle.lg_timing.specs.declared.config.Config.{Config}
use Rattle.lg_detector.specs.Meaning.Timing.{scaled_interval, scaled_timeout}
use Rattle.lg_detector.specs.Meaning.Probing.{first_word}
use Rattle.lg_detector.specs.Support.State.{choice_unless, chose_unless, number_after, round_of_choice, with_round}
use Rattle.lg_detector.proofs.Reaching.{few_timers, reached-start}
use Rattle.lg_detector.proofs.detector.Detector.choose.Goals as goal

pub set_round-requires : goal.set_round-requires
set_round-requires c =
    let parts = c.deref_mut-parts.result.now in
    let before : IsReached (state_in parts) = subst IsReached (sym (ap state_in c.deref_mut-parts.ensures.value)) c.self.invariant in
    omega (arith, few_timers (state_in parts) before)

pub invariant_of-self : goal.invariant_of-self
invariant_of-self c =
    let parts = c.deref_mut-parts.result.now in
    let before : IsReached (state_in parts) = subst IsReached (sym (ap state_in c.deref_mut-parts.ensures.value)) c.self.invariant in
    let end : c.milliseconds-now.result + c.scaled_interval.result ≡ parts.moment + scaled_interval parts.membership.config parts.score =
    λ i. c.milliseconds-now.ensures.milliseconds i + (c.scaled_interval.ensures.interval ∙ ap (λ (o : Option Config). scaled_interval o parts.score) c.config-config.ensures.state) i in
    let direct : c.milliseconds-now.result + c.scaled_timeout.result ≡ parts.moment + scaled_timeout parts.membership.config parts.score =
    λ i. c.milliseconds-now.ensures.milliseconds i + (c.scaled_timeout.ensures.timeout ∙ ap (λ (o : Option Config). scaled_timeout o parts.score) c.config-config.ensures.state) i in
    let left = c.has_left-has_left.ensures.state in
    let chosen = c.choose_unless-chosen.ensures.chosen ∙ ap (λ b. choice_unless b (first_word c.args.words.now) parts.order) left in
    let timers = c.set_round.ensures ∙ (λ i. with_round (chosen i) (end i) (direct i) parts.timers) in
    let number = c.number_after-parts.ensures ∙ ap (number_after parts.number) chosen in
    let round = c.new_round-parts.ensures ∙ ap (round_of_choice parts.number) chosen in
    reached-start (state_in parts) _ c.args.words.now
    (λ i. record {
      events = parts.events;
      moment = parts.moment;
      score = parts.score;
      timers = timers i;
      order = (c.choose_unless-chosen.ensures.order ∙ ap (λ b. chose_unless b (first_word c.args.words.now) parts.order) left) i;
      number = number i;
      round = round i;
      gossip = parts.gossip;
      relays = parts.relays;
      membership = parts.membership;
    })
    before
