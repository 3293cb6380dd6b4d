use Rattle.std.proofs.Common.{◌≡◌, ◌≤◌, [], None, length, ap, sym, subst, ◌∙◌, arith}
use Rattle.lg_probe.specs.declared.relays.TheConstants.{MAX_RELAYS}
use Rattle.lg_membership.specs.Support.Reached.{IsGood}
use Rattle.lg_membership.proofs.LiveOthers.{live-nil}
use Rattle.lg_membership.proofs.SuspicionLaws.{suspicions-nil}
use Rattle.lg_detector.specs.declared.detector.TheConstants.{MAX_EVENTS}
use Rattle.lg_detector.specs.Support.Kept.{state_in}
use Rattle.lg_detector.specs.Support.State.{State, state_of}
use Rattle.lg_detector.proofs.TimerLaws.{turned, runs, pending-nil}
use Rattle.lg_detector.proofs.detector.Detector.blank.Goals as goal

pub returns : goal.returns
returns c =
    let timers = c.new-2.ensures ∙ pending-nil ∙ ap (λ rows. turned [] [] [] (runs (record { rows = rows; gone = [] }))) (sym suspicions-nil) in
    let order = c.new-3.ensures ∙ ap (λ names. record { names = names; chosen = [] }) (sym live-nil) in
    ap state_in c.in_ok-parts.ensures.ok
    ∙ (λ i. record {
      events = 0;
      moment = c.default.ensures i;
      score = c.new.ensures i;
      timers = timers i;
      order = order i;
      number = 1;
      round = None;
      gossip = None;
      relays = c.new-4.ensures i;
      membership = c.blank.ensures i;
    })

pub invariant_of-result : goal.invariant_of-result
invariant_of-result c =
    let timers = c.new-2.ensures ∙ pending-nil ∙ ap (λ rows. turned [] [] [] (runs (record { rows = rows; gone = [] }))) (sym suspicions-nil) in
    let order = c.new-3.ensures ∙ ap (λ names. record { names = names; chosen = [] }) (sym live-nil) in
    let is : state_in c.in_ok-parts.parts.value ≡ state_of [] =
    ap state_in c.in_ok-parts.ensures.ok
    ∙ (λ i. record {
      events = 0;
      moment = c.default.ensures i;
      score = c.new.ensures i;
      timers = timers i;
      order = order i;
      number = 1;
      round = None;
      gossip = None;
      relays = c.new-4.ensures i;
      membership = c.blank.ensures i;
    }) in
    record {
      log = [];
      is = is;
      good = subst (λ (s : State). IsGood s.membership.config) (sym is) tt;
      few_events = subst (λ (s : State). s.events ≤ MAX_EVENTS) (sym is) (omega arith);
      few_relays = subst (λ (s : State). length s.relays ≤ MAX_RELAYS) (sym is) (omega arith);
    }
