use Rattle.std.proofs.Common.{rules, tests}
use Rattle.std.proofs.lemmas.Iterator.{YieldsList-from_slice}
use Rattle.std.proofs.lemmas.Iterator.Search.{any_from_yields_List}
use Rattle.lg_config.specs.Meaning.Hosts.{is_letter}
use Rattle.lg_config.proofs.host.has_letter.Goals as goal

pub returns : goal.returns
returns c =
    any_from_yields_List is_letter _ _ c.any.result c.any.ensures.ran (YieldsList-from_slice c.args.text.now cc)
    (λ x b q k. search (rules, tests))
