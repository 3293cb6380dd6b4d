use Rattle.std.proofs.Common.{ℕ, List, ◌++◌, ap, ap₂, codes, decimal, string_bytes, ◌∙◌}
use Rattle.lg_text.specs.Meaning.Lines.{newline}
use Rattle.toml.specs.View.{table_view}
use Rattle.lg_config.specs.Meaning.Ranges.{given_text, zero_words}
use Rattle.lg_config.specs.Meaning.Settings.{integer_at}
use Rattle.lg_config.proofs.ReasonLaws.{said_as}
use Rattle.lg_config.proofs.ranges.range_reason.Goals as goal

-- the reason with these words for the number and before the range
abbrev of_words : List ℕ → ℕ → ℕ → List ℕ → List ℕ → List ℕ
of_words key least most given zero =
    let range = decimal least ++ (codes " to " ++ (decimal most ++ newline)) in
    key ++ (codes " is " ++ (given ++ (codes ", and has to be " ++ (zero ++ (codes "from " ++ range)))))

pub returns : goal.returns
returns c =
    let key = c.args.key.now in
    let allowed = c.args.allowed in
    let words = of_words key allowed.least allowed.most in
    let usual = given_text (integer_at key (table_view c.args.table.now)) allowed.default in
    said_as c.format.result (words (string_bytes c.in_ok-given.given) c.zero_words-zero.result.now) (words usual (zero_words allowed.off)) c.format.ensures.ok
    (ap₂ words (c.in_ok-given.ensures ∙ ap (λ number. given_text number allowed.default) c.integer_at.ensures) c.zero_words-zero.ensures)
