use Rattle.std.proofs.Common.{ℤ, sym, ◌∙◌, ap, arith}
use Rattle.std.proofs.lemmas.Bool.{eqb-true, eqb-false}
use Rattle.lg_bit_set.specs.Meaning.Flags.{count_set, entries_in}
use Rattle.lg_probe.specs.Meaning.Round.{RoundValue, mark_of}
use Rattle.lg_probe.proofs.Parts.{part_count}
use Rattle.lg_probe.proofs.RoundLaws.{one_earned, two_earned}
use Rattle.lg_probe.proofs.round.Round.end.Goals as goal

abbrev mark : RoundValue → ℤ
mark r = mark_of r.acked r.silent

pub returns-then-is_empty-clause-mark : goal.returns-then-is_empty-clause-mark
returns-then-is_empty-clause-mark c =
    let silent = entries_in c.self.inside.silent c.self.inside.asked.items in
    let none = eqb-true (count_set c.self.inside.silent) 0 (sym c.is_empty.ensures.empty ∙ c.if-is_empty.true) in
    one_earned c.self.inside.acked silent c.if-self.false (omega (arith, none, part_count c.self.invariant))
    ∙ ap mark c.self.view_is

pub returns-then-is_empty-clause-past : goal.returns-then-is_empty-clause-past
returns-then-is_empty-clause-past c = λ past e. returns-then-is_empty-clause-mark c ∙ ap mark e

pub returns-else-is_empty-clause-mark : goal.returns-else-is_empty-clause-mark
returns-else-is_empty-clause-mark c =
    let silent = entries_in c.self.inside.silent c.self.inside.asked.items in
    let some = eqb-false (count_set c.self.inside.silent) 0 (sym c.is_empty.ensures.empty ∙ c.if-is_empty.false) in
    two_earned c.self.inside.acked silent c.if-self.false (omega (arith, some, part_count c.self.invariant))
    ∙ ap mark c.self.view_is

pub returns-else-is_empty-clause-past : goal.returns-else-is_empty-clause-past
returns-else-is_empty-clause-past c = λ past e. returns-else-is_empty-clause-mark c ∙ ap mark e
