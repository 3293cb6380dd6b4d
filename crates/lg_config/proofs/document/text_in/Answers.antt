use Rattle.std.proofs.Common.{le-leb, arith, length}
use Rattle.std.proofs.lemmas.Str.{is_utf8-from_IsUtf8}
use Rattle.lg_config.specs.Meaning.Bounds.{most_bytes}
use Rattle.lg_config.proofs.TextLaws.{no_text}
use Rattle.lg_config.proofs.document.text_in.Goals as goal

pub returns-in-Ok : goal.returns-in-Ok
returns-in-Ok c =
    (c.in-Ok.ensures.cases.0, le-leb (length c.args.bytes.now) most_bytes (omega arith), is_utf8-from_IsUtf8 c.args.bytes.now c.in-Ok.ensures.cases.1)

pub returns-in-Err : goal.returns-in-Err
returns-in-Err c =
    (le-leb (length c.args.bytes.now) most_bytes (omega arith), no_text c.args.bytes.now c.in-Err.ensures.cases.0)
