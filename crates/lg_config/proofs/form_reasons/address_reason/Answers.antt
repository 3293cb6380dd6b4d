use Rattle.std.proofs.Common.{ℕ, List, ◌++◌, ap, codes, string_bytes, ◌∙◌}
use Rattle.toml.specs.View.{table_view}
use Rattle.lg_config.specs.Meaning.Quoting.{quoted}
use Rattle.lg_config.specs.Meaning.Settings.{address_text}
use Rattle.lg_config.proofs.ReasonLaws.{said_as}
use Rattle.lg_config.proofs.form_reasons.address_reason.Goals as goal

-- the reason with this quote
abbrev with_quote : List ℕ → List ℕ
with_quote quote = codes "address is " ++ (quote ++ codes ", and has to be A.B.C.D, each from 0 to 255 without leading zeros, or IPv6, or auto\n")

pub returns : goal.returns
returns c =
    said_as c.format.result (with_quote (string_bytes c.in_ok-quote.quote)) (with_quote (quoted (address_text (table_view c.args.table.now)))) c.format.ensures.ok
    (ap with_quote (c.in_ok-quote.ensures ∙ ap quoted (c.as_bytes.ensures.value ∙ c.address_text.ensures)))
