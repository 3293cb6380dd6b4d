use Rattle.std.proofs.Common.{ℕ, List, ◌++◌, ap, codes, ◌∙◌}
use Rattle.std.proofs.lemmas.Result.{IfOk-weaker}
use Rattle.lg_text.specs.Meaning.Lines.{newline}
use Rattle.lg_explain_run.proofs.words.write_reason.Goals as goal

-- the reason with these words
abbrev with_words : List ℕ → List ℕ → List ℕ
with_words path words = codes "the file " ++ (path ++ (codes " can't be written: " ++ (words ++ newline)))

pub returns : goal.returns
returns c = IfOk-weaker c.format.result _ _ (λ text is. is ∙ ap (with_words c.args.path.now) c.write_words-words.ensures) c.format.ensures.ok
