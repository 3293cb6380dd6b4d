use Rattle.std.proofs.Common.{nat_eq, sym, ap, arith}
use Rattle.lg_rows.proofs.RowLaws.{row-length}
use Rattle.lg_rows.proofs.rows.Rows.is_full.Goals as goal

pub returns-clause-full : goal.returns-clause-full
returns-clause-full g c = ap (λ n. nat_eq n g.row.N) (sym (row-length c.self.invariant c.args.self.now c.self.view_is))

pub returns-clause-few : goal.returns-clause-few
returns-clause-few g c = omega (arith, row-length c.self.invariant c.args.self.now c.self.view_is, c.self.invariant.few)
