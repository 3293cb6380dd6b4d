use Rattle.std.proofs.Common.{◌++◌, ◌∷◌, ◌+◌, List, ℕ, ap, drop, get_or, sym, ◌∙◌}
use Rattle.lg_replay.proofs.FolderLaws.{faulty, parted}
use Rattle.lg_explain.specs.Meaning.Folders.{FailsAtReading}
use Rattle.lg_explain.proofs.FolderLaws.{taken_on}
use Rattle.lg_explain.proofs.folder.take_each.Goals as goal

pub returns-in_err-take_next-clause-fault : goal.returns-in_err-take_next-clause-fault
returns-in_err-take_next-clause-fault g c =
    let gone = c.loop-number.invariant in
    let i = c.loop-number.number-index in
    let numbers = c.args.numbers.now in
    let rest = get_or numbers i 0 ∷ drop (i + 1) numbers in
    faulty
    (FailsAtReading g.S.RecordingFiles.tells (g.S.RecordingFiles.past c.args.files.now) (g.S.RecordingFiles.past c.take_next.new.files) c.args.numbers.now)
    c.in_err-take_next.field-0.0 c.from_residual.result c.from_residual.ensures.1
    (c.in_err-take_next.ensures.fault (g.S.RecordingFiles.past c.args.files.now) gone.files numbers (drop (i + 1) numbers) gone.so_far
    (parted numbers i c.loop-number-test.true ∙ ap (λ (ns : List ℕ). ns ++ rest) (sym gone.are)))

pub loop-number-preserved : goal.loop-number-preserved
loop-number-preserved g c =
    let gone = c.loop-number.invariant in
    taken_on g.S.RecordingFiles.tells (g.S.RecordingFiles.past c.args.files.now) (g.S.RecordingFiles.past c.take_next.new.files) c.args.numbers.now
    c.take_next.new.explainer c.args.question.now c.loop-number.number-index gone.files c.loop-number-test.true gone.are
    (c.in_ok-take_next.ensures.done (g.S.RecordingFiles.past c.args.files.now) gone.files gone.so_far)
