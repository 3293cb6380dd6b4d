use Rattle.std.proofs.Common.{Some, None, append-nil, sym}
use Rattle.lg_recording.specs.Meaning.Next.{recorded_in}
use Rattle.lg_replay.proofs.EntriesLaws.{gone_all, gone_on, next_none, next_some}
use Rattle.lg_replay.proofs.replayer.Replayer.replay_entries.Goals as goal

pub returns-in-Ok-None-clause-ran : goal.returns-in-Ok-None-clause-ran
returns-in-Ok-None-clause-ran c =
    let is = next_none _ _ _ c.in-Ok-None.field-0-is c.in-Ok-None.ensures in
    gone_all _ _ _ _ _ _ _ _ _ _ None c.entries.invariant is (sym (append-nil c.entries.text.items))

pub returns-in-Err-clause-ran : goal.returns-in-Err-clause-ran
returns-in-Err-clause-ran c =
    gone_all _ _ _ _ _ _ _ _ _ _ (Some c.in-Err.fault) c.entries.invariant c.in-Err.ensures c.in_ok-put_fault-in-Err.ensures

pub entries-preserved : goal.entries-preserved
entries-preserved c =
    let is = next_some _ _ _ c.in-Ok-Some.recorded c.in-Ok-Some.field-0-is c.in-Ok-Some.ensures in
    gone_on _ _ _ _ _ _ _ _ _ _ _ _ _ (recorded_in c.in-Ok-Some.recorded) c.entries.invariant is
    c.in_ok-replay_entry-in-Ok-Some.ensures.ran c.in_ok-replay_entry-in-Ok-Some.ensures.notes c.in_ok-number.ensures
