use Rattle.std.proofs.Common.{take}
use Rattle.lg_explain.specs.Support.FolderAccounts.{TakenAll}
use Rattle.lg_explain.proofs.folder.take_each.Given as goal

-- the files so far were taken
abbrev pub invariant-loop-number : goal.invariant-loop-number
invariant-loop-number g l =
    TakenAll g.S.RecordingFiles.tells (g.S.RecordingFiles.past l.fn.files) (g.S.RecordingFiles.past l.files) (take l.number-index l.numbers) l.explainer l.question
