use Rattle.std.proofs.Common.{nat_eq, sym, ap}
use Rattle.lg_rows.proofs.RowLaws.{row-length}
use Rattle.lg_rows.proofs.rows.Rows.is_empty.Goals as goal

pub returns : goal.returns
returns g c = ap (λ n. nat_eq n 0) (sym (row-length c.self.invariant c.args.self.now c.self.view_is))
