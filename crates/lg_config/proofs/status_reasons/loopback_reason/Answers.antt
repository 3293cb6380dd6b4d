use Rattle.std.proofs.Common.{ℕ, List, ◌++◌, ap, codes, string_bytes, ◌∙◌}
use Rattle.toml.specs.View.{table_view}
use Rattle.lg_config.specs.Meaning.Quoting.{quoted}
use Rattle.lg_config.specs.Meaning.StatusReasons.{status_addr_text}
use Rattle.lg_config.proofs.ReasonLaws.{said_as}
use Rattle.lg_config.proofs.status_reasons.loopback_reason.Goals as goal

-- the reason with this quote
abbrev with_quote : List ℕ → List ℕ
with_quote quote = codes "status is " ++ (quote ++ codes ", and has to be in 127.0.0.0/8 or ::1 if status_open isn't true\n")

pub returns : goal.returns
returns c =
    said_as c.format.result (with_quote (string_bytes c.in_ok-quote.quote)) (with_quote (quoted (status_addr_text (table_view c.args.table.now)))) c.format.ensures.ok
    (ap with_quote (c.in_ok-quote.ensures ∙ ap quoted (c.as_bytes.ensures.value ∙ c.status_addr_text.ensures)))
