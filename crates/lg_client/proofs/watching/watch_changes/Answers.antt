use Rattle.lg_client.proofs.WatchLaws.{ends_unasked}
use Rattle.lg_client.proofs.watching.watch_changes.Goals as goal

pub returns-in-Err : goal.returns-in-Err
returns-in-Err g c =
    ends_unasked _ _ _ _ _ _ c.in-Err.fault _ c.in-Err.ensures.0 c.in-Err.ensures.1 c.tell.ensures.line c.tell.ensures.status
