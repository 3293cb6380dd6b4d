use Rattle.lg_rules.proofs.NameLemmas.{holds_copied}
use Rattle.lg_rules.proofs.name.Name.from_good.Goals as goal

pub invariant_of-result : goal.invariant_of-result
invariant_of-result c = holds_copied c.copy_from_slice.new.self c.args.text.now c.copy_from_slice.ensures.after c.requires
