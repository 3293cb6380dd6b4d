use Rattle.std.proofs.Math.Nat.{mod-add-mod}
use Rattle.lg_loops.proofs.agenda.number_behind.Goals as goal

pub returns : goal.returns
returns c = λ some. mod-add-mod c.args.number c.args.count 1
