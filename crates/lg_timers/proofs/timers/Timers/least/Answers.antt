use Rattle.std.proofs.Common.{sym, ◌∙◌, ap, subst}
use Rattle.lg_timers.specs.Meaning.Timers.{least_of}
use Rattle.lg_timers.specs.Support.InTurn.{IsTimerSet}
use Rattle.lg_timers.specs.Support.Singles.{first_of_both}
use Rattle.lg_timers.proofs.SinglesLaws.{singles-set, singles-least}
use Rattle.lg_timers.proofs.timers.Timers.least.Goals as goal

pub returns-clause-least : goal.returns-clause-least
returns-clause-least c =
    let i = c.self.invariant in
    c.first_of_both.ensures
    ∙ (λ j. first_of_both (c.first.ensures j) (i.first j))
    ∙ sym (singles-least c.self.inside.singles i.many)
    ∙ ap least_of c.self.view_is

pub returns-clause-set : goal.returns-clause-set
returns-clause-set c = subst IsTimerSet c.self.view_is (singles-set c.self.inside.singles c.self.invariant.many)
