-- What the definitions say of the event of an entry.
use Rattle.std.specs.Prelude.{List, [], Option, Some, None}
use Rattle.lg_rules.specs.declared.claim.Claim.{Claim}
use Rattle.lg_notes.specs.declared.insights.Insight.{Insight}
use Rattle.lg_notes.specs.declared.insights.Insights.{Insights}

-- before the event, after it, and the member table after it
abbrev pub InsightsValue : Type 0
InsightsValue = Insight × Insight × List Claim

-- what the program's type holds of it
abbrev pub insights_value : Insights → InsightsValue
insights_value known = (known.before, known.after, known.table.now)

abbrev pub maybe_insights : Option Insights → Option InsightsValue
maybe_insights None = None
maybe_insights (Some known) = Some (insights_value known)

-- the table after an event, which is taken as empty if it isn't known
abbrev pub table_known : Option InsightsValue → List Claim
table_known None = []
table_known (Some known) = known.2
