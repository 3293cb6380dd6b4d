use Rattle.std.proofs.Common.{◌≡◌, List, length, Some, ap, sym, ◌∙◌}
use Rattle.toml.specs.Data.{Members}
use Rattle.toml.specs.View.{items_view, table_view}
use Rattle.toml.specs.declared.value.Value.{Value}
use Rattle.lg_config.specs.declared.node.NodeConfig.{NodeConfig}
use Rattle.lg_config.specs.Meaning.Answer.{unless_apart, unless_node}
use Rattle.lg_config.specs.Meaning.Settings.{item_count, seeds_at, settings_of}
use Rattle.lg_config.proofs.SeedLaws.{items-counted}
use Rattle.lg_config.proofs.node.judged_in.Goals as goal

-- the seeds are as many as the elements at their key
judged : (m : Members) (node : NodeConfig) (vs : List Value) → Some node ≡ settings_of m → items_view vs ≡ seeds_at m
    → unless_apart (length vs) node ≡ unless_node (item_count (seeds_at m)) (settings_of m)
judged m node vs found same =
    ap (λ count. unless_apart count node) (sym (items-counted vs) ∙ ap item_count same)
    ∙ ap (unless_node (item_count (seeds_at m))) found

pub returns : goal.returns
returns c =
    c.unless_apart.ensures
    ∙ judged (table_view c.args.table.now) c.in_ok-node.node c.seeds_at.result.now (sym c.in_ok-node.ensures.ok_part ∙ c.settings_in.ensures) c.seeds_at.ensures
