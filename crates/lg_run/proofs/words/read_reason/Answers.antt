use Rattle.std.proofs.Common.{ℕ, List, ◌++◌, ap, codes}
use Rattle.lg_text.specs.Meaning.Lines.{newline}
use Rattle.lg_config.proofs.ReasonLaws.{said_as}
use Rattle.lg_run.specs.Meaning.Words.{read_words}
use Rattle.lg_run.proofs.words.read_reason.Goals as goal

-- the reason with these words
abbrev with_words : List ℕ → List ℕ → List ℕ
with_words file words = codes "the file " ++ (file ++ (codes " can't be read: " ++ (words ++ newline)))

pub returns : goal.returns
returns c =
    let file = c.args.file.now in
    said_as c.format.result (with_words file c.read_words-words.result.now) (with_words file (read_words c.args.kind))
    c.format.ensures.ok (ap (with_words file) c.read_words-words.ensures)
