use Rattle.std.proofs.Common.{rules, tests, ◌∙◌}
use Rattle.std.proofs.lemmas.Iterator.{YieldsList-from_slice}
use Rattle.std.proofs.lemmas.Iterator.Search.{all_from_yields_List}
use Rattle.toml.specs.View.{view}
use Rattle.lg_config.specs.Meaning.Keys.{is_text}
use Rattle.lg_config.proofs.KeyLaws.{texts-all}
use Rattle.lg_config.proofs.keys.are_texts.Goals as goal

pub returns : goal.returns
returns c =
    all_from_yields_List (λ v. is_text (view v)) _ _ c.all.result c.all.ensures.ran (YieldsList-from_slice c.args.values.now cc) (λ x b q k. search (rules, tests))
    ∙ texts-all c.args.values.now
