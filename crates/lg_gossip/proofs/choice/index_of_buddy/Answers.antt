use Rattle.lg_gossip.proofs.Passed.{beside_held, beside_missing}
use Rattle.lg_gossip.proofs.choice.index_of_buddy.Goals as goal

pub returns-in-Ok : goal.returns-in-Ok
returns-in-Ok c k d l = rw c.in-Some.is (beside_held c.in-Some.buddy.now c.args.rows.now.items c.requires k d l c.in-Ok.index c.in-Ok.ensures)

pub returns-in-Err : goal.returns-in-Err
returns-in-Err c k d l = rw (c.in-Some.is, c.len.ensures.len) (beside_missing c.in-Some.buddy.now c.args.rows.now.items c.requires k d l c.in-Err.ensures.missing)
