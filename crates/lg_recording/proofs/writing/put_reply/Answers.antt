use Rattle.lg_recording.proofs.Written.{reply_written}
use Rattle.lg_recording.proofs.writing.put_reply.Goals as goal

pub returns : goal.returns
returns c =
    reply_written c.args.reply.now _ _ _ _ _ _ _ _ _ _ _
    c.as_slice.ensures.value c.as_slice-2.ensures.value c.as_slice-3.ensures.value
    c.in_ok-put_fired.ensures c.in_ok-put_sends.ensures c.in_ok-put_records.ensures.put c.in_ok-put_names.ensures
    c.in_ok-put_answer.ensures c.in_ok-put_flag.ensures.put c.in_ok-put_count.ensures.put
