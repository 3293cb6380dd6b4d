use Rattle.std.proofs.Transfers.{starts_with_trans}
use Rattle.lg_lines.proofs.ReplyLaws.{reply_written}
use Rattle.lg_lines.proofs.replies.put_lines.Goals as goal

pub returns-clause-put : goal.returns-clause-put
returns-clause-put c =
    reply_written c.args.event.now c.args.first c.args.reply.now _ _ _ _ _ _ _ _ _ _ _
    c.as_slice.ensures.value c.as_slice-2.ensures.value c.as_slice-3.ensures.value
    c.in_ok-put_fired.ensures.put c.in_ok-put_answer.ensures.put c.in_ok-put_sends.ensures.put c.in_ok-put_records.ensures.put
    c.in_ok-put_forgotten.ensures.put c.in_ok-put_ousted.ensures.put c.in_ok-put_next.ensures.put

pub returns-in_err-put_answer-clause-front : goal.returns-in_err-put_answer-clause-front
returns-in_err-put_answer-clause-front c = starts_with_trans _ _ _ c.put_answer.ensures.front c.put_fired.ensures.front

pub returns-in_err-put_sends-clause-front : goal.returns-in_err-put_sends-clause-front
returns-in_err-put_sends-clause-front c = starts_with_trans _ _ _ c.put_sends.ensures.front (starts_with_trans _ _ _ c.put_answer.ensures.front c.put_fired.ensures.front)

pub returns-in_err-put_records-clause-front : goal.returns-in_err-put_records-clause-front
returns-in_err-put_records-clause-front c = starts_with_trans _ _ _ c.put_records.ensures.front (starts_with_trans _ _ _ c.put_sends.ensures.front (starts_with_trans _ _ _ c.put_answer.ensures.front c.put_fired.ensures.front))

pub returns-in_err-put_forgotten-clause-front : goal.returns-in_err-put_forgotten-clause-front
returns-in_err-put_forgotten-clause-front c = starts_with_trans _ _ _ c.put_forgotten.ensures.front (starts_with_trans _ _ _ c.put_records.ensures.front (starts_with_trans _ _ _ c.put_sends.ensures.front (starts_with_trans _ _ _ c.put_answer.ensures.front c.put_fired.ensures.front)))

pub returns-in_err-put_ousted-clause-front : goal.returns-in_err-put_ousted-clause-front
returns-in_err-put_ousted-clause-front c = starts_with_trans _ _ _ c.put_ousted.ensures.front (starts_with_trans _ _ _ c.put_forgotten.ensures.front (starts_with_trans _ _ _ c.put_records.ensures.front (starts_with_trans _ _ _ c.put_sends.ensures.front (starts_with_trans _ _ _ c.put_answer.ensures.front c.put_fired.ensures.front))))

pub returns-in_err-put_next-clause-front : goal.returns-in_err-put_next-clause-front
returns-in_err-put_next-clause-front c = starts_with_trans _ _ _ c.put_next.ensures.front (starts_with_trans _ _ _ c.put_ousted.ensures.front (starts_with_trans _ _ _ c.put_forgotten.ensures.front (starts_with_trans _ _ _ c.put_records.ensures.front (starts_with_trans _ _ _ c.put_sends.ensures.front (starts_with_trans _ _ _ c.put_answer.ensures.front c.put_fired.ensures.front)))))

pub returns-clause-front : goal.returns-clause-front
returns-clause-front c = starts_with_trans _ _ _ c.put_next.ensures.front (starts_with_trans _ _ _ c.put_ousted.ensures.front (starts_with_trans _ _ _ c.put_forgotten.ensures.front (starts_with_trans _ _ _ c.put_records.ensures.front (starts_with_trans _ _ _ c.put_sends.ensures.front (starts_with_trans _ _ _ c.put_answer.ensures.front c.put_fired.ensures.front)))))
