use Rattle.std.proofs.Common.{sym, arith, length-take}
use Rattle.std.proofs.lemmas.List.{take_all}
use Rattle.lg_config.specs.Meaning.Quoting.{most_shown}
use Rattle.lg_config.proofs.quoting.front_of.Goals as goal

pub slice_bounds-result-end : goal.slice_bounds-result-end
slice_bounds-result-end c = omega (arith, length-take most_shown c.args.text.now)

pub returns-else-text-gt-MAX_SHOWN : goal.returns-else-text-gt-MAX_SHOWN
returns-else-text-gt-MAX_SHOWN c = sym (take_all most_shown c.args.text.now (omega arith))
