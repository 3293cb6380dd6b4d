use Rattle.lg_history.specs.Meaning.History.{entry}
use Rattle.lg_replay.proofs.EntryLaws.{unjudged}
use Rattle.lg_replay.proofs.entries.Buffers.judge_due.Goals as goal

pub returns-else-is_due : goal.returns-else-is_due
returns-else-is_due c = λ due none.
    unjudged c.args.is_due c.args.due.now due (entry c.args.seat c.args.event.now c.args.recorded.now) c.if-is_due.false none
