use Rattle.std.proofs.Common.{sym, ◌∙◌, ap}
use Rattle.lg_rules.specs.Meaning.Own.{own_left}
use Rattle.lg_rules.proofs.OwnLaws.{own-leaves}
use Rattle.lg_rules.proofs.own.Own.leave.Goals as goal

pub returns-clause-past : goal.returns-clause-past
returns-clause-past c = λ past e.
    ap own_left (c.self.view_is ∙ e) ∙ sym (own-leaves c.args.self.now.name c.args.self.now.addr past)
