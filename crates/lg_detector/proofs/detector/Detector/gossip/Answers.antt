use Rattle.std.proofs.Common.{ap, ◌∙◌}
use Rattle.lg_detector.specs.Meaning.Tick.{gossips_for}
use Rattle.lg_detector.specs.Support.Send.{packets_state, send_all_state}
use Rattle.lg_detector.specs.Support.Step.{view_state}
use Rattle.lg_detector.specs.Support.Tick.{while_news_state}
use Rattle.lg_detector.proofs.detector.Detector.gossip.Goals as goal

pub returns-clause-state : goal.returns-clause-state
returns-clause-state c =
    let s = c.args.self.now in
    c.tell_each.ensures.state
    ∙ ap (λ ns. send_all_state (while_news_state (gossips_for (view_state s) ns) s) s) c.pick_told-told.ensures

pub returns-clause-sends : goal.returns-clause-sends
returns-clause-sends c =
    let s = c.args.self.now in
    c.tell_each.ensures.sends
    ∙ ap (λ ns. packets_state (while_news_state (gossips_for (view_state s) ns) s) s) c.pick_told-told.ensures
