use Rattle.std.proofs.Common.{sym}
use Rattle.lg_rows.proofs.RowLaws.{row-length}
use Rattle.lg_rows.proofs.rows.Rows.len.Goals as goal

pub returns-clause-len : goal.returns-clause-len
returns-clause-len g c = sym (row-length c.self.invariant c.args.self.now c.self.view_is)
