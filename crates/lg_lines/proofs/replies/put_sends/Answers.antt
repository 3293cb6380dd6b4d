use Rattle.std.proofs.Transfers.{starts_with_of_append, starts_with_trans}
use Rattle.lg_lines.proofs.SendLaws.{send_written}
use Rattle.lg_lines.proofs.replies.put_sends.Goals as goal

pub loop-outgoing-preserved : goal.loop-outgoing-preserved
loop-outgoing-preserved c =
    let so_far = c.loop-outgoing.invariant in
    send_written _ _ _ c.args.sends.now _ _ _ _ c.loop-outgoing-test.true c.outgoing-item.is so_far.0 so_far.1 c.in_ok-put_send.ensures.put

pub returns-in_err-put_send-clause-front : goal.returns-in_err-put_send-clause-front
returns-in_err-put_send-clause-front c = starts_with_trans _ _ _ c.put_send.ensures.front (starts_with_of_append _ _ _ c.loop-outgoing.invariant.1)
