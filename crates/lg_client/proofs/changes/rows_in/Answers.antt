use Rattle.std.proofs.Common.{◌≡◌, None, Some, ap, sym, ◌∙◌, rules}
use Rattle.serde_json.specs.View.{view}
use Rattle.lg_client.specs.Meaning.Changes.{change_said}
use Rattle.lg_client.proofs.EachLaws.{each_more, each_none}
use Rattle.lg_client.proofs.changes.rows_in.Goals as goal

pub returns-in_default : goal.returns-in_default
returns-in_default c =
    let none : change_said (view c.value-item.result) ≡ None = search rules in
    each_none change_said c.args.values.now c.loop-value.value-index c.value-item.result c.loop-value-test.true c.value-item.is none

pub loop-value-preserved : goal.loop-value-preserved
loop-value-preserved c =
    let found : change_said (view c.value-item.result) ≡ Some c.in-Some.row = search rules in
    each_more change_said c.args.values.now c.loop-value.value-index c.value-item.result c.loop-value.rows.items c.in-Some.row c.loop-value-test.true c.value-item.is c.loop-value.invariant found
    ∙ ap Some (sym c.in-Ok.ensures)
