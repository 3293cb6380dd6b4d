use Rattle.std.proofs.Common.{List, ℕ, subst, ◌∙◌, ◌++◌, sym, ap}
use Rattle.std.specs.Io.KnownBytes.{Appends}
use Rattle.lg_text.specs.Meaning.Running.{AppendsFront}
use Rattle.lg_replay.specs.declared.fault.FolderFault.TheVariants.{Write}
use Rattle.lg_replay.specs.Meaning.Lives.{unknown_life}
use Rattle.lg_replay.specs.Meaning.Replays.{all_verdicts}
use Rattle.lg_replay.specs.Meaning.Verdicts.{counts_line}
use Rattle.lg_replay.proofs.FolderLaws.{faulty}
use Rattle.lg_replay.proofs.folder.write_end.Goals as goal

pub returns-in_err-write_whole-clause-fault : goal.returns-in_err-write_whole-clause-fault
returns-in_err-write_whole-clause-fault g c =
    faulty _ (Write c.in_err-write_whole.field-0.0) c.from_residual-in_err-write_whole.result c.from_residual-in_err-write_whole.ensures.1
    (λ files is.
    let line = counts_line (all_verdicts unknown_life files) in
    subst (λ (t : List ℕ). AppendsFront (g.W.Write.contents c.args.writer.now) (g.W.Write.contents c.write_whole.new.writer) t)
    (c.deref.ensures.value ∙ c.in_ok-end.ensures.text files is ∙ ap (λ (t : List ℕ). t ++ line) c.new-text.ensures.items) c.in_err-write_whole.ensures.partly)

pub returns-clause-done : goal.returns-clause-done
returns-clause-done g c = λ files is.
    let line = counts_line (all_verdicts unknown_life files) in
    record {
      wrote =
          subst (λ (t : List ℕ). Appends (g.W.Write.contents c.args.writer.now) (g.W.Write.contents c.write_whole.new.writer) t)
          (c.deref.ensures.value ∙ c.in_ok-end.ensures.text files is ∙ ap (λ (t : List ℕ). t ++ line) c.new-text.ensures.items) c.in_ok-write_whole.ensures.written;
      ended = c.in_ok-end.ensures.end files is;
      counted = c.counts.ensures files is;
    }
