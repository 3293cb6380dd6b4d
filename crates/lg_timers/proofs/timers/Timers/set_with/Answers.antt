use Rattle.std.proofs.Common.{◌∙◌, ap}
use Rattle.lg_rules.proofs.RowsFound.{filter-none}
use Rattle.lg_timers.specs.Meaning.Timers.{has_id, with_timer}
use Rattle.lg_timers.proofs.timers.Timers.set_with.Goals as goal

pub returns-clause-set : goal.returns-clause-set
returns-clause-set g c = c.reset_with.ensures.set ∙ ap (with_timer c.args.timer) (filter-none (has_id c.args.timer.id) c.args.self.now c.requires.apart)
