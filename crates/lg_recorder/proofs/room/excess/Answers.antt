use Rattle.lg_recorder.proofs.FolderLaws.{least_at}
use Rattle.lg_recorder.proofs.room.excess.Goals as goal

pub returns-then-size-left : goal.returns-then-size-left
returns-then-size-left c =
    least_at c.args.files.now c.args.room c.loop-kept.kept c.loop-kept.left _ c.loop-kept-test.true c.loop-kept.invariant.within c.loop-kept.invariant.fit c.if-size-left.true
