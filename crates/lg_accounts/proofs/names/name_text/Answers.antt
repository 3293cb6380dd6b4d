use Rattle.std.proofs.Common.{subst, sym}
use Rattle.std.specs.Str.{IsUtf8}
use Rattle.lg_accounts.proofs.NameLaws.{name-utf8}
use Rattle.lg_accounts.proofs.names.name_text.Goals as goal

pub returns-in-Err : goal.returns-in-Err
returns-in-Err c =
    absurd (c.in-Err.ensures.cases.0 (subst IsUtf8 (sym c.as_bytes.ensures.bytes) (name-utf8 c.args.name.now c.as_bytes.ensures.name)))
