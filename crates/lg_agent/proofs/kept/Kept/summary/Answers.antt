use Rattle.std.proofs.Common.{◌≡◌, List, length, take, subst, arith}
use Rattle.std.specs.Prelude.{Option, Some}
use Rattle.lg_detector.specs.declared.event.Event.{Event}
use Rattle.lg_detector.specs.Support.State.{State}
use Rattle.lg_detector.specs.Support.Summary.{IsSummary}
use Rattle.lg_history.specs.Meaning.Rest.{StandsFor, AnsweredFrom}
use Rattle.lg_history.proofs.Rests.{rest_accepted, rest_answered, rest_seats, answered_from}
use Rattle.lg_agent.specs.declared.kept.TheConstants.{SEATS}
use Rattle.lg_agent.proofs.kept.Kept.summary.Goals as goal

pub returns-clause-accepted : goal.returns-clause-accepted
returns-clause-accepted g c = let k = c.self.inside in rw (← c.self.view_is) (rest_accepted k.places (take k.base k.feed.events) k.cut k.history.entries c.self.invariant.0)

pub returns-clause-answered : goal.returns-clause-answered
returns-clause-answered g c = let k = c.self.inside in rw (← c.self.view_is) (rest_answered k.places (take k.base k.feed.events) k.cut k.history.entries c.self.invariant.0)

pub returns-clause-from : goal.returns-clause-from
returns-clause-from g c =
    let k = c.self.inside in
    let past : List Event = take k.base k.feed.events in
    let known : (s : State) → k.summary ≡ Some s → AnsweredFrom s k.history.entries = λ s is.
    let stands : IsSummary s past = (subst (λ (o : Option State). StandsFor o past) is c.self.invariant.1).0 in
    answered_from s past k.history.entries stands (rest_accepted k.places past k.cut k.history.entries c.self.invariant.0) (rest_answered k.places past k.cut k.history.entries c.self.invariant.0) in
    rw (← c.self.view_is) known

pub returns-clause-seats : goal.returns-clause-seats
returns-clause-seats g c =
    let k = c.self.inside in
    let long : length k.cut ≡ SEATS = c.self.invariant.14 in
    rw (← c.self.view_is) (rest_seats k.places (take k.base k.feed.events) k.cut k.history.entries c.self.invariant.0 (omega (arith, long, c.self.invariant.12)))
