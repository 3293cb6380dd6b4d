use Rattle.std.proofs.Common.{[]}
use Rattle.lg_history.proofs.Legal.{answered-at}
use Rattle.lg_history.proofs.laws.replies_by_place.Goals as goal

pub returns : goal.returns
returns c places n h x legal is = answered-at [] h n x legal.answered is
