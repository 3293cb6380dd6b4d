use Rattle.std.proofs.Common.{◌∙◌}
use Rattle.std.proofs.Transfers.{starts_with_trans}
use Rattle.lg_lines.proofs.RecordLaws.{record_written}
use Rattle.lg_lines.proofs.records.put_record.Goals as goal

pub returns-clause-put : goal.returns-clause-put
returns-clause-put c =
    record_written c.args.claim.now _ _ _ _ _ _ _ _ _ _ _ c.as_bytes.ensures.bytes (c.as_bytes-2.ensures.value ∙ c.status_word.ensures)
    (c.from.ensures ∙ c.number.ensures.number) c.in_ok-put.ensures.put c.in_ok-put-2.ensures.put c.in_ok-put-3.ensures.put
    c.in_ok-put_numbered.ensures.put c.in_ok-put-4.ensures.put c.in_ok-put_addr.ensures.put c.in_ok-put_accuser.ensures.put

pub returns-in_err-put-2-clause-front : goal.returns-in_err-put-2-clause-front
returns-in_err-put-2-clause-front c = starts_with_trans _ _ _ c.put-2.ensures.front c.put.ensures.front

pub returns-in_err-put-3-clause-front : goal.returns-in_err-put-3-clause-front
returns-in_err-put-3-clause-front c = starts_with_trans _ _ _ c.put-3.ensures.front (starts_with_trans _ _ _ c.put-2.ensures.front c.put.ensures.front)

pub returns-in_err-put_numbered-clause-front : goal.returns-in_err-put_numbered-clause-front
returns-in_err-put_numbered-clause-front c = starts_with_trans _ _ _ c.put_numbered.ensures.front (starts_with_trans _ _ _ c.put-3.ensures.front (starts_with_trans _ _ _ c.put-2.ensures.front c.put.ensures.front))

pub returns-in_err-put-4-clause-front : goal.returns-in_err-put-4-clause-front
returns-in_err-put-4-clause-front c = starts_with_trans _ _ _ c.put-4.ensures.front (starts_with_trans _ _ _ c.put_numbered.ensures.front (starts_with_trans _ _ _ c.put-3.ensures.front (starts_with_trans _ _ _ c.put-2.ensures.front c.put.ensures.front)))

pub returns-in_err-put_addr-clause-front : goal.returns-in_err-put_addr-clause-front
returns-in_err-put_addr-clause-front c = starts_with_trans _ _ _ c.put_addr.ensures.front (starts_with_trans _ _ _ c.put-4.ensures.front (starts_with_trans _ _ _ c.put_numbered.ensures.front (starts_with_trans _ _ _ c.put-3.ensures.front (starts_with_trans _ _ _ c.put-2.ensures.front c.put.ensures.front))))

pub returns-in_err-put_accuser-clause-front : goal.returns-in_err-put_accuser-clause-front
returns-in_err-put_accuser-clause-front c = starts_with_trans _ _ _ c.put_accuser.ensures.front (starts_with_trans _ _ _ c.put_addr.ensures.front (starts_with_trans _ _ _ c.put-4.ensures.front (starts_with_trans _ _ _ c.put_numbered.ensures.front (starts_with_trans _ _ _ c.put-3.ensures.front (starts_with_trans _ _ _ c.put-2.ensures.front c.put.ensures.front)))))

pub returns-clause-front : goal.returns-clause-front
returns-clause-front c = starts_with_trans _ _ _ c.put_accuser.ensures.front (starts_with_trans _ _ _ c.put_addr.ensures.front (starts_with_trans _ _ _ c.put-4.ensures.front (starts_with_trans _ _ _ c.put_numbered.ensures.front (starts_with_trans _ _ _ c.put-3.ensures.front (starts_with_trans _ _ _ c.put-2.ensures.front c.put.ensures.front)))))
