use Rattle.std.proofs.Common.{◌∙◌}
use Rattle.std.specs.List.{list_any}
use Rattle.lg_rules.proofs.KeyOrder.{names_eq}
use Rattle.lg_commands.proofs.order.is_among.Goals as goal

pub returns : goal.returns
returns c = c.contains.ensures.value ∙ (λ i. list_any (λ n. names_eq n c.args.name.now i) c.args.names.now)
