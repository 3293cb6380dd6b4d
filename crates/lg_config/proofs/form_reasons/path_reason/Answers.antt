use Rattle.std.proofs.Common.{ℕ, List, ◌++◌, ap, codes, string_bytes, ◌∙◌}
use Rattle.toml.specs.View.{table_view}
use Rattle.lg_config.specs.Meaning.FormReasons.{path_text}
use Rattle.lg_config.specs.Meaning.Quoting.{quoted}
use Rattle.lg_config.proofs.ReasonLaws.{said_as}
use Rattle.lg_config.proofs.form_reasons.path_reason.Goals as goal

-- the reason of this key with this quote
abbrev with_quote : List ℕ → List ℕ → List ℕ
with_quote key quote = key ++ (codes " is " ++ (quote ++ codes ", and has to have 1 to 255 bytes of printable ASCII\n"))

pub returns : goal.returns
returns c =
    let key = c.args.key.now in
    said_as c.format.result (with_quote key (string_bytes c.in_ok-quote.quote)) (with_quote key (quoted (path_text key (table_view c.args.table.now)))) c.format.ensures.ok
    (ap (with_quote key) (c.in_ok-quote.ensures ∙ ap quoted (c.as_bytes.ensures.value ∙ c.path_text.ensures)))
