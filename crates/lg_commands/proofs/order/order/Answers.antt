use Rattle.std.proofs.Common.{sym, ap, ap₂, ◌∙◌}
use Rattle.lg_probe.specs.Meaning.Order.{picks}
use Rattle.lg_commands.specs.Meaning.Choosing.{name_lines}
use Rattle.lg_commands.proofs.ListLaws.{both_good, names_bad, names_good, of_fault, words_bad}
use Rattle.lg_commands.proofs.order.order.Goals as goal

pub returns-in_err-names-clause-refused : goal.returns-in_err-names-clause-refused
returns-in_err-names-clause-refused c =
    let bad = c.in_err-names.field-0.0 in
    of_fault _ _ _ c.from_residual.ensures.1
    (names_bad (λ v. v.items) c.names_in.result c.args.names.now c.args.words.now bad c.names_in.ensures (sym c.ok_or.ensures.value ∙ c.in_err-names.was))

pub returns-in_err-words-clause-refused : goal.returns-in_err-words-clause-refused
returns-in_err-words-clause-refused c =
    let bad = c.in_err-words.field-0.0 in
    of_fault _ _ _ c.from_residual-in_err-words.ensures.1
    (words_bad (λ v. v.items) c.in_ok-names.names c.names_in.result (λ v. v.items) c.in_ok-words_in.field-0 c.args.names.now c.args.words.now bad
    c.names_in.ensures (sym c.ok_or.ensures.value ∙ c.in_ok-names.was) c.in_ok-words_in.ensures (sym c.ok_or-2.ensures.value ∙ c.in_err-words.was))

pub returns-clause-text : goal.returns-clause-text
returns-clause-text c =
    both_good (λ v. v.items) c.in_ok-names.names c.names_in.result (λ v. v.items) c.in_ok-words.words c.in_ok-words_in.field-0 c.args.names.now c.args.words.now
    c.names_in.ensures (sym c.ok_or.ensures.value ∙ c.in_ok-names.was) c.in_ok-words_in.ensures (sym c.ok_or-2.ensures.value ∙ c.in_ok-words.was)
    c.in_ok-chosen.chosen.items c.in_ok-text.text.items
    (c.in_ok-chosen.ensures.chosen ∙ ap₂ picks c.as_slice.ensures.value c.as_slice-2.ensures.value)
    (c.in_ok-text.ensures ∙ ap name_lines c.as_slice-3.ensures.value)

-- ---- where the names are good, they aren't told to be bad

pub returns-in_err-words_in-clause-names : goal.returns-in_err-words_in-clause-names
returns-in_err-words_in-clause-names c bad = absurd (names_good (λ v. v.items) c.in_ok-names.names c.names_in.result _ _ c.names_in.ensures (sym c.ok_or.ensures.value ∙ c.in_ok-names.was) bad)

pub returns-in_err-words-clause-names : goal.returns-in_err-words-clause-names
returns-in_err-words-clause-names c bad = absurd (names_good (λ v. v.items) c.in_ok-names.names c.names_in.result _ _ c.names_in.ensures (sym c.ok_or.ensures.value ∙ c.in_ok-names.was) bad)

pub returns-in_err-chosen-clause-names : goal.returns-in_err-chosen-clause-names
returns-in_err-chosen-clause-names c bad = absurd (names_good (λ v. v.items) c.in_ok-names.names c.names_in.result _ _ c.names_in.ensures (sym c.ok_or.ensures.value ∙ c.in_ok-names.was) bad)

pub returns-in_err-text-clause-names : goal.returns-in_err-text-clause-names
returns-in_err-text-clause-names c bad = absurd (names_good (λ v. v.items) c.in_ok-names.names c.names_in.result _ _ c.names_in.ensures (sym c.ok_or.ensures.value ∙ c.in_ok-names.was) bad)

pub returns-clause-names : goal.returns-clause-names
returns-clause-names c bad = absurd (names_good (λ v. v.items) c.in_ok-names.names c.names_in.result _ _ c.names_in.ensures (sym c.ok_or.ensures.value ∙ c.in_ok-names.was) bad)
