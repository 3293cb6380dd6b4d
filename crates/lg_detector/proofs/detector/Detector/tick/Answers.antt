use Rattle.std.proofs.Common.{subst, sym, ◌∙◌}
use Rattle.lg_detector.specs.Support.Reached.{IsReached}
use Rattle.lg_detector.proofs.Ticking.{idle_differing}
use Rattle.lg_detector.proofs.detector.Detector.tick.Goals as goal

pub returns-in-None-clause-differing : goal.returns-in-None-clause-differing
returns-in-None-clause-differing c =
    let s = c.args.self.now in
    let reached : IsReached s = subst IsReached c.self.view_is c.self.invariant in
    c.clear-in-None.ensures ∙ idle_differing s c.come.new.self c.args.now c.args.words.now reached c.come.ensures (sym c.in-None.is ∙ c.due-reply.ensures)
