use Rattle.std.proofs.Common.{◌∙◌, sym, ap}
use Rattle.std.specs.Ordering.{is_eq}
use Rattle.lg_rules.proofs.KeyOrder.{names_eq}
use Rattle.lg_rules.proofs.name.NamePartialEq.eq.Goals as goal

pub returns : goal.returns
returns c = c.is_eq.ensures ∙ ap is_eq c.cmp.ensures ∙ sym (names_eq c.args.self.now c.args.other.now)
