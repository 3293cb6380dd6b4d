-- What the definitions say before and after an event, with the table after it.
use Rattle.std.specs.Prelude.{List, Option, Some, None}
use Rattle.lg_rules.specs.declared.claim.Claim.{Claim}
use Rattle.lg_notes.specs.Meaning.Insights.{InsightsValue}
use Rattle.lg_notes.specs.declared.insights.Insight.{Insight}

abbrev pub tabled : Option (Insight × Insight) → List Claim → Option InsightsValue
tabled None table = None
tabled (Some both) table = Some (both.0, both.1, table)
