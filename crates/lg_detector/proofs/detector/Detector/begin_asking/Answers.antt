use Rattle.std.proofs.Common.{◌≡◌, option_map, ap, sym, subst, ◌∙◌}
use Rattle.lg_detector.specs.Support.Kept.{state_in}
use Rattle.lg_detector.specs.Support.Reached.{IsReached}
use Rattle.lg_probe.specs.Meaning.Round.{Asked, round_with}
use Rattle.lg_detector.specs.Support.State.{helpers_state}
use Rattle.lg_detector.proofs.Reaching.{reached-direct}
use Rattle.lg_detector.proofs.detector.Detector.begin_asking.Goals as goal

pub invariant_of-self : goal.invariant_of-self
invariant_of-self c =
    let parts = c.deref_mut-parts.result.now in
    let before : IsReached (state_in parts) = subst IsReached (sym (ap state_in c.deref_mut-parts.ensures.value)) c.self.invariant in
    let here : state_in parts ≡ c.args.self.now = ap state_in c.deref_mut-parts.ensures.value ∙ c.self.view_is in
    let picked : c.pick-helpers.result ≡ helpers_state c.args.words.now (state_in parts) = c.pick-helpers.ensures ∙ ap (helpers_state c.args.words.now) (sym here) in
    let round = c.ask.ensures ∙ ap (λ names. option_map (λ r. round_with r (Asked names)) parts.round) picked in
    reached-direct (state_in parts) _ c.args.words.now
    (λ i. record {
      events = parts.events;
      moment = parts.moment;
      score = parts.score;
      timers = c.cancel.ensures.others i;
      order = parts.order;
      number = parts.number;
      round = round i;
      gossip = parts.gossip;
      relays = parts.relays;
      membership = parts.membership;
    })
    before
