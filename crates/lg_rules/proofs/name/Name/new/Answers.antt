use Rattle.std.proofs.Common.{◌≤◌, length, sym, ◌∙◌, arith}
use Rattle.std.proofs.lemmas.Bool.{eqb-false}
use Rattle.lg_rules.proofs.NameLemmas.{named}
use Rattle.lg_rules.proofs.name.Name.new.Goals as goal

pub from_good-requires : goal.from_good-requires
from_good-requires c =
    let apart = eqb-false (length c.args.text.now) 0 (sym c.is_empty.ensures ∙ c.if-is_empty.false) in
    let some : 1 ≤ length c.args.text.now = omega arith in
    named c.args.text.now some c.if-text-gt-MAX_NAME.false (sym c.first_bad_byte.ensures ∙ c.in_default.is)
