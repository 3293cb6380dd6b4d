use Rattle.std.proofs.Common.{take}
use Rattle.lg_replay.specs.Support.Folders.{HasReplayed}
use Rattle.lg_replay.proofs.folder.replay_each.Given as goal

-- the files so far were replayed
abbrev pub invariant-loop-number : goal.invariant-loop-number
invariant-loop-number g l =
    HasReplayed g.S.RecordingFiles.tells (g.S.RecordingFiles.past l.fn.files) (g.S.RecordingFiles.past l.files) (take l.number-index l.numbers) l.window
    (g.W.Write.contents l.fn.writer) (g.W.Write.contents l.writer) l.replayer
