use Rattle.std.proofs.Common.{rules, of_calls, Bool}
use Rattle.std.specs.Ordering.{is_lt}
use Rattle.std.proofs.lemmas.Fn.{always_returns_same}
use Rattle.lg_rules.specs.Meaning.Rows.{name_cmp}
use Rattle.lg_rules.proofs.KeyOrder.{names_order}
use Rattle.lg_rules.proofs.Places.{point_is, parted}
use Rattle.lg_rules.proofs.rows.count_lesser.Goals as goal

pub returns : goal.returns
returns g c =
    let lesser : g.row.T.Denot → Bool = λ r. is_lt (name_cmp (g.T.Keyed.key_of r) c.args.name.now) in
    point_is lesser c.args.rows.now c.partition_point.result c.partition_point.ensures.bound
    (c.partition_point.ensures.partitioned lesser (always_returns_same _ _ _ (λ a r f k. search (rules, of_calls))) (parted names_order g.T.Keyed.key_of c.args.name.now c.args.rows.now c.requires))
