use Rattle.std.proofs.Common.{refl}
use Rattle.lg_recording.specs.Meaning.Next.{entry_in}
use Rattle.lg_replay.proofs.EntryLaws.{entry_ran}
use Rattle.lg_replay.proofs.replayer.Replayer.replay_entry.Goals as goal

pub returns-clause-ran : goal.returns-clause-ran
returns-clause-ran c = λ life verdicts come.
    entry_ran c.args.self.now _ c.follow-is_due.new.self c.count_sent.new.self c.args.text.now.items c.put_loss.new.text.items c.put_entry_lines.new.text.items
    c.args.window.now c.args.number c.in_ok-first.first (entry_in c.args.recorded.now) life verdicts
    c.follow-is_due.result c.follow-is_due.new.reply c.told_reply-told.result.now c.in_ok-verdict.verdict
    come c.follow-is_due.ensures.past c.follow-is_due.ensures.sent c.follow-is_due.ensures.due c.in_ok-put_loss.ensures c.in_ok-verdict.ensures
    c.in_ok-first.ensures.number c.told_reply-told.ensures c.in_ok-put_entry_lines.ensures
    c.in_ok-count_sent.ensures.count c.in_ok-count_sent.ensures.past refl c.in_ok-add.ensures
