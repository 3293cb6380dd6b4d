use Rattle.std.proofs.Common.{◌≡◌, ◌∙◌, List, length, sym}
use Rattle.lg_detector.specs.declared.event.Event.{Event}
use Rattle.lg_history.specs.Meaning.Rest.{StandsFor}
use Rattle.lg_agent.specs.Meaning.Closing.{ClosedValue}
use Rattle.lg_agent.proofs.ChoiceSteps.{stands_long}
use Rattle.lg_agent.proofs.closed.Closed.base.Goals as goal

pub returns-clause-length : goal.returns-clause-length
returns-clause-length c =
    let me : ClosedValue = record { summary = c.self.inside.summary; base = c.self.inside.base; history = c.self.inside.entries.items } in
    let known : (f : List Event) → StandsFor me.summary f → me.base ≡ length f =
    λ f stands. sym (c.self.invariant.base) ∙ stands_long me.summary c.self.invariant.past f c.self.invariant.summary stands in
    rw (← c.self.view_is) known
