use Rattle.std.proofs.Common.{◌≤◌, length, ◌≡◌, true, ◌∙◌, rules, sym}
use Rattle.std.specs.Char.{is_ascii_digit}
use Rattle.std.specs.List.{list_all}
use Rattle.lg_text.proofs.NumberLaws.{read_number, same_text, taken}
use Rattle.lg_text.proofs.number.number_in.Goals as goal

pub returns-in_err-ok : goal.returns-in_err-ok
returns-in_err-ok c =
    let text = c.args.text.now in
    let good : list_all is_ascii_digit text ≡ true = search rules in
    absurd (taken text c.from_utf8.result _ good c.from_utf8.ensures.cases (sym c.ok.ensures.value ∙ c.in_err-ok.was))

pub returns : goal.returns
returns c =
    let text = c.args.text.now in
    let good : list_all is_ascii_digit text ≡ true = search rules in
    let same = same_text text c.from_utf8.result _ c.in_ok-ok.field-0 c.from_utf8.ensures.cases (sym c.ok.ensures.value ∙ c.in_ok-ok.was) in
    let few : length text ≤ 16 = search rules in
    c.ok-2.ensures.value ∙ read_number text c.parse.result (rw same at c.parse.ensures.value.0) few good
