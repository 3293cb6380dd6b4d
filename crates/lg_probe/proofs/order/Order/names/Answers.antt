use Rattle.std.proofs.Common.{sym, ◌∙◌, ap, subst}
use Rattle.lg_bit_set.specs.Meaning.Flags.{entries_in}
use Rattle.lg_rules.specs.Meaning.Rows.{name_cmp, Rises}
use Rattle.lg_probe.proofs.Parts.{part_rises}
use Rattle.lg_probe.proofs.order.Order.names.Goals as goal

pub returns-clause-rises : goal.returns-clause-rises
returns-clause-rises c =
    subst (Rises name_cmp) (sym (c.entries.ensures ∙ ap (entries_in c.self.inside.joined) c.as_slice.ensures.value))
    (part_rises c.self.invariant.rises c.self.invariant.names)
