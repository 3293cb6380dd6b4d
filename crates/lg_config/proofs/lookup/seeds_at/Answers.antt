use Rattle.std.proofs.Common.{codes, ◌∙◌, ap}
use Rattle.toml.proofs.Views.{table_get}
use Rattle.toml.specs.View.{items_view, view}
use Rattle.lg_config.proofs.SeedLaws.{elements-of, no-elements}
use Rattle.lg_config.proofs.lookup.seeds_at.Goals as goal

pub returns-in_default : goal.returns-in_default
returns-in_default c = no-elements c.get.result _ (table_get c.get.result (codes "seeds") c.args.table.now.entries c.get.ensures.value) c.in_default.not-Some

pub returns-in-Some-as_array : goal.returns-in-Some-as_array
returns-in-Some-as_array c =
    let found = rw c.in-Some.is at (table_get c.get.result (codes "seeds") c.args.table.now.entries c.get.ensures.value) in
    ap items_view c.as_slice.ensures.value ∙ elements-of _ (view c.in-Some.value.now) _ found c.in-Some-as_array.ensures

pub returns-in-None : goal.returns-in-None
returns-in-None c =
    let found = rw c.in-Some.is at (table_get c.get.result (codes "seeds") c.args.table.now.entries c.get.ensures.value) in
    elements-of _ (view c.in-Some.value.now) _ found c.in-None.ensures
