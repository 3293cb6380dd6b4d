use Rattle.std.proofs.Common.{ap, subst, ◌∙◌}
use Rattle.lg_detector.specs.Support.Reached.{IsReached}
use Rattle.lg_detector.specs.Support.Tick.{claims_said_state}
use Rattle.lg_detector.proofs.Ticking.{silent_differing}
use Rattle.lg_detector.proofs.GossipLaws.{gossip-sends}
use Rattle.lg_detector.proofs.detector.Detector.fire.Goals as goal

pub returns-in-Direct-clause-differing : goal.returns-in-Direct-clause-differing
returns-in-Direct-clause-differing c =
    let s = c.args.self.now in
    let reached : IsReached s = subst IsReached c.self.view_is c.self.invariant in
    c.clear-in-Direct.ensures ∙ silent_differing s c.args.timer.now c.args.words.now reached (ap (λ id. claims_said_state id s) c.in-Direct.is)

pub returns-in-RelayNack-clause-differing : goal.returns-in-RelayNack-clause-differing
returns-in-RelayNack-clause-differing c =
    let s = c.args.self.now in
    let reached : IsReached s = subst IsReached c.self.view_is c.self.invariant in
    c.clear-in-RelayNack.ensures ∙ silent_differing s c.args.timer.now c.args.words.now reached (ap (λ id. claims_said_state id s) c.in-RelayNack.is)

pub returns-in-RelayEnd-clause-differing : goal.returns-in-RelayEnd-clause-differing
returns-in-RelayEnd-clause-differing c =
    let s = c.args.self.now in
    let reached : IsReached s = subst IsReached c.self.view_is c.self.invariant in
    c.clear-in-RelayEnd.ensures ∙ silent_differing s c.args.timer.now c.args.words.now reached (ap (λ id. claims_said_state id s) c.in-RelayEnd.is)

pub returns-in-RoundStart-clause-differing : goal.returns-in-RoundStart-clause-differing
returns-in-RoundStart-clause-differing c =
    let s = c.args.self.now in
    let reached : IsReached s = subst IsReached c.self.view_is c.self.invariant in
    c.clear-in-RoundStart.ensures ∙ silent_differing s c.args.timer.now c.args.words.now reached (ap (λ id. claims_said_state id s) c.in-RoundStart.is)

pub returns-in-Forget-clause-differing : goal.returns-in-Forget-clause-differing
returns-in-Forget-clause-differing c =
    let s = c.args.self.now in
    let reached : IsReached s = subst IsReached c.self.view_is c.self.invariant in
    c.clear-in-Forget.ensures ∙ silent_differing s c.args.timer.now c.args.words.now reached (ap (λ id. claims_said_state id s) c.in-Forget.is)

pub returns-in-Gossip-clause-differing : goal.returns-in-Gossip-clause-differing
returns-in-Gossip-clause-differing c =
    let s = c.args.self.now in
    let reached : IsReached s = subst IsReached c.self.view_is c.self.invariant in
    c.clear-in-Gossip.ensures ∙ silent_differing s c.args.timer.now c.args.words.now reached (ap (λ id. claims_said_state id s) c.in-Gossip.is)

pub returns-in-Gossip-clause-sends : goal.returns-in-Gossip-clause-sends
returns-in-Gossip-clause-sends c = c.gossip.ensures.sends ∙ gossip-sends c.args.timer.now c.args.words.now c.args.self.now c.in-Gossip.is
