use Rattle.std.proofs.Common.{sym, ◌∙◌, ap}
use Rattle.lg_timers.specs.Meaning.Timers.{first_forget}
use Rattle.lg_timers.proofs.SinglesLaws.{singles-forget}
use Rattle.lg_timers.proofs.timers.Timers.first_forget.Goals as goal

pub returns : goal.returns
returns c = c.first_forget.ensures ∙ sym (singles-forget c.self.inside.singles c.self.invariant.many) ∙ ap first_forget c.self.view_is
