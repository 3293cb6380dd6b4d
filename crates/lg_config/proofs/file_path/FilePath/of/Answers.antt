use Rattle.std.proofs.Common.{◌≡◌, rules, ap, ◌∙◌}
use Rattle.std.proofs.lemmas.Str.{is_utf8-from_IsUtf8}
use Rattle.std.specs.Str.{is_utf8}
use Rattle.lg_config.proofs.file_path.FilePath.of.Goals as goal

pub invariant_of-result : goal.invariant_of-result
invariant_of-result c =
    let put : c.try_extend_from_slice.new.self.items ≡ c.args.text.now = search rules in
    ap is_utf8 put ∙ is_utf8-from_IsUtf8 c.args.text.now c.utf8.text
