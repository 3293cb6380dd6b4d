use Rattle.std.proofs.Common.{ap, ◌∙◌, sym, subst, IsTrue}
use Rattle.lg_detector.specs.Support.Step.{accepts_of, happen_state, react_state}
use Rattle.lg_detector.proofs.Accepting.{opened_checked}
use Rattle.lg_detector.proofs.detector.Detector.react.Goals as goal

pub open_with-requires-clause-good : goal.open_with-requires-clause-good
open_with-requires-clause-good c =
    opened_checked c.args.self.now c.in-Open.now c.in-Open.config (subst (λ e. IsTrue (accepts_of c.args.self.now e)) c.in-Open.is c.requires)

pub returns-in-Open-clause-state : goal.returns-in-Open-clause-state
unfolding happen_state
returns-in-Open-clause-state c = c.open_with.ensures.state ∙ ap (react_state c.args.self.now) (sym c.in-Open.is)

pub returns-in-Tick-clause-state : goal.returns-in-Tick-clause-state
unfolding happen_state
returns-in-Tick-clause-state c = c.tick.ensures.state ∙ ap (react_state c.args.self.now) (sym c.in-Tick.is)

pub returns-in-Heard-clause-state : goal.returns-in-Heard-clause-state
unfolding happen_state
returns-in-Heard-clause-state c = c.hear.ensures.state ∙ ap (react_state c.args.self.now) (sym c.in-Heard.is)

pub returns-in-Ask-clause-state : goal.returns-in-Ask-clause-state
unfolding happen_state
returns-in-Ask-clause-state c = c.ask.ensures.state ∙ ap (react_state c.args.self.now) (sym c.in-Ask.is)

pub returns-in-Health-clause-state : goal.returns-in-Health-clause-state
unfolding happen_state
returns-in-Health-clause-state c = c.ask_health.ensures.state ∙ ap (react_state c.args.self.now) (sym c.in-Health.is)

pub returns-in-Pull-clause-state : goal.returns-in-Pull-clause-state
unfolding happen_state
returns-in-Pull-clause-state c = c.pull.ensures.state ∙ ap (react_state c.args.self.now) (sym c.in-Pull.is)

pub returns-in-Leave-clause-state : goal.returns-in-Leave-clause-state
unfolding happen_state
returns-in-Leave-clause-state c = c.leave.ensures.state ∙ ap (react_state c.args.self.now) (sym c.in-Leave.is)
