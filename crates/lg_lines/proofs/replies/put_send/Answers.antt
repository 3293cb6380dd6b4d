use Rattle.std.proofs.Transfers.{starts_with_of_append, starts_with_trans}
use Rattle.lg_lines.proofs.SendLaws.{line_written}
use Rattle.lg_lines.proofs.replies.put_send.Goals as goal

pub returns-clause-put : goal.returns-clause-put
returns-clause-put c =
    line_written c.args.number c.args.outgoing.now _ _ _ _ _ _ _ c.in_ok-put_numbered.ensures.put c.in_ok-put.ensures.put c.in_ok-put_addr.ensures.put
    c.in_ok-put-2.ensures.put c.in_ok-put_hex.ensures.put c.in_ok-put-3.ensures.put

pub returns-in_err-put-clause-front : goal.returns-in_err-put-clause-front
returns-in_err-put-clause-front c = starts_with_trans _ _ _ c.put.ensures.front c.put_numbered.ensures.front

pub returns-in_err-put_addr-clause-front : goal.returns-in_err-put_addr-clause-front
returns-in_err-put_addr-clause-front c = starts_with_trans _ _ _ c.put_addr.ensures.front (starts_with_trans _ _ _ c.put.ensures.front c.put_numbered.ensures.front)

pub returns-in_err-put-2-clause-front : goal.returns-in_err-put-2-clause-front
returns-in_err-put-2-clause-front c = starts_with_trans _ _ _ c.put-2.ensures.front (starts_with_trans _ _ _ c.put_addr.ensures.front (starts_with_trans _ _ _ c.put.ensures.front c.put_numbered.ensures.front))

pub returns-in_err-put-3-clause-front : goal.returns-in_err-put-3-clause-front
returns-in_err-put-3-clause-front c = starts_with_trans _ _ _ c.put-3.ensures.front (starts_with_trans _ _ _ (starts_with_of_append _ _ _ c.in_ok-put_hex.ensures.put) (starts_with_trans _ _ _ c.put-2.ensures.front (starts_with_trans _ _ _ c.put_addr.ensures.front (starts_with_trans _ _ _ c.put.ensures.front c.put_numbered.ensures.front))))

pub returns-clause-front : goal.returns-clause-front
returns-clause-front c = starts_with_trans _ _ _ c.put-3.ensures.front (starts_with_trans _ _ _ (starts_with_of_append _ _ _ c.in_ok-put_hex.ensures.put) (starts_with_trans _ _ _ c.put-2.ensures.front (starts_with_trans _ _ _ c.put_addr.ensures.front (starts_with_trans _ _ _ c.put.ensures.front c.put_numbered.ensures.front))))
