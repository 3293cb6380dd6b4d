use Rattle.std.proofs.Common.{ap, sym, ◌∙◌}
use Rattle.std.proofs.lemmas.Bool.{false≢true}
use Rattle.std.specs.Str.{is_utf8}
use Rattle.lg_config.proofs.TextLaws.{no_text}
use Rattle.lg_config.proofs.file_path.FilePath.as_str.Goals as goal

-- the bytes of a path are those of a text
pub unreachable-requires : goal.unreachable-requires
unreachable-requires c =
    let bad = no_text c.as_slice.result.now c.in-Err.ensures.cases.0 in
    let good = ap is_utf8 c.as_slice.ensures.value ∙ c.self.invariant in
    false≢true (sym bad ∙ good)
