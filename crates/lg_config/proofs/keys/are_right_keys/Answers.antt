use Rattle.std.proofs.Common.{◌≡◌, rules, tests, sym, ap, ◌∙◌, ◌&&◌, true, false, codes, is_some, string_bytes}
use Rattle.std.proofs.lemmas.Iterator.Consumers.{YieldsList-from_rest}
use Rattle.std.proofs.lemmas.Iterator.Search.{all_from_yields_List}
use Rattle.toml.specs.Data.{get_member}
use Rattle.toml.specs.View.{table_view, view}
use Rattle.lg_config.specs.Meaning.Keys.{are_known, is_of_kind, kind_of_key}
use Rattle.lg_config.proofs.KeyLaws.{held, known-all}
use Rattle.lg_config.proofs.keys.are_right_keys.Goals as goal

pub returns-then-contains_key : goal.returns-then-contains_key
returns-then-contains_key c =
    let known = all_from_yields_List (λ e. is_of_kind (kind_of_key (string_bytes e.0)) (view e.1)) _ _ c.all.result c.all.ensures.ran (YieldsList-from_rest c.args.table.now.entries c.iter.ensures.rest) (λ x b q k. search (rules, tests)) in
    let has : is_some (get_member (codes "name") (table_view c.args.table.now)) ≡ true = sym (held (codes "name") c.args.table.now.entries) ∙ sym c.contains_key.ensures ∙ c.if-contains_key.true in
    known ∙ known-all c.args.table.now.entries ∙ ap (λ b. b && are_known (table_view c.args.table.now)) (sym has)

pub returns-else-contains_key : goal.returns-else-contains_key
returns-else-contains_key c =
    let has : is_some (get_member (codes "name") (table_view c.args.table.now)) ≡ false = sym (held (codes "name") c.args.table.now.entries) ∙ sym c.contains_key.ensures ∙ c.if-contains_key.false in
    c.if-contains_key.false ∙ ap (λ b. b && are_known (table_view c.args.table.now)) (sym has)
