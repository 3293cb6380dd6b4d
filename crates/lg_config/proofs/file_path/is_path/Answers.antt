use Rattle.std.proofs.Common.{◌≡◌, ◌&&◌, rules, tests, ap, sym, ◌∙◌}
use Rattle.std.specs.List.{list_all}
use Rattle.std.proofs.lemmas.Iterator.{YieldsList-from_slice}
use Rattle.std.proofs.lemmas.Iterator.Search.{all_from_yields_List}
use Rattle.lg_config.specs.Meaning.Paths.{is_path_byte}
use Rattle.lg_config.proofs.file_path.is_path.Goals as goal

pub returns-then-is_within : goal.returns-then-is_within
returns-then-is_within c =
    let text = c.args.text.now in
    let all : c.all.result ≡ list_all is_path_byte text =
    all_from_yields_List is_path_byte _ _ c.all.result c.all.ensures.ran (YieldsList-from_slice text cc)
    (λ x b q k. search (rules, tests)) in
    all ∙ ap (λ few. few && list_all is_path_byte text) (sym (sym c.is_within.ensures ∙ c.if-is_within.true))
