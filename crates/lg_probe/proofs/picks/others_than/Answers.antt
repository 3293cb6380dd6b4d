use Rattle.std.proofs.Common.{◌≡◌, true, false, sym, ◌∙◌, subst, List, Bool, ℕ, [], refl}
use Rattle.std.proofs.lemmas.Bool.{false≢true}
use Rattle.lg_bit_set.specs.Meaning.Flags.{entries_in}
use Rattle.lg_rules.specs.Meaning.Rows.{name_cmp, is_among, is_same}
use Rattle.lg_rules.proofs.RowsFound.{filter-none}
use Rattle.lg_probe.specs.Support.Order.{IsPart}
use Rattle.lg_probe.specs.Meaning.Order.{without}
use Rattle.lg_probe.proofs.NameRows.{among_missing}
use Rattle.lg_probe.proofs.Parts.{part_is, part_out, part_within}
use Rattle.lg_probe.proofs.Picking.{of_row}
use Rattle.lg_probe.proofs.picks.others_than.Goals as goal

out : (c : goal.After-remove)
    → IsPart c.args.row.now (without c.args.name.now (entries_in c.args.numbers.now c.args.row.now)) c.remove.new.self
out c =
    let row = c.args.row.now in
    let others = without c.args.name.now (entries_in c.args.numbers.now row) in
    subst (λ (f : List Bool). IsPart row others f) (sym c.remove.ensures.flags)
    (part_out c.requires.rises c.requires.numbers c.in-Ok.at c.args.name.now c.in-Ok.ensures.within
    (c.in-Ok.ensures.named []))

pub returns-in-Ok-clause-others : goal.returns-in-Ok-clause-others
returns-in-Ok-clause-others c = part_is (out c)

pub returns-in-Ok-clause-numbers : goal.returns-in-Ok-clause-numbers
returns-in-Ok-clause-numbers c = of_row (out c)

pub returns-in_default-clause-others : goal.returns-in_default-clause-others
returns-in_default-clause-others c =
    sym (filter-none (λ m. is_same name_cmp m c.args.name.now) names
    (absent (is_among name_cmp c.args.name.now names) refl))
  where
    names : List (List ℕ)
    names = entries_in c.args.numbers.now c.args.row.now

    fresh : is_among name_cmp c.args.name.now c.args.row.now ≡ false
    fresh = among_missing c.args.name.now c.args.row.now c.requires.rises c.in_default.ensures.missing

    absent : (b : Bool) → is_among name_cmp c.args.name.now (entries_in c.args.numbers.now c.args.row.now) ≡ b
        → is_among name_cmp c.args.name.now (entries_in c.args.numbers.now c.args.row.now) ≡ false
    absent true e = absurd (false≢true (sym fresh ∙ part_within c.requires.numbers c.args.name.now e))
    absent false e = e

pub returns-in_default-clause-numbers : goal.returns-in_default-clause-numbers
returns-in_default-clause-numbers c = of_row c.requires.numbers
