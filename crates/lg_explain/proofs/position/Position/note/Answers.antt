use Rattle.std.proofs.Common.{ap, ◌∙◌, List}
use Rattle.lg_rules.specs.declared.claim.Claim.{Claim}
use Rattle.lg_heads.specs.Meaning.Heads.{head_value}
use Rattle.lg_recording.specs.Meaning.Next.{recorded_in}
use Rattle.lg_explain.specs.Support.Insights.{tabled}
use Rattle.lg_explain.proofs.PositionLaws.{noted}
use Rattle.lg_explain.proofs.position.Position.note.Goals as goal

pub returns-clause-noted : goal.returns-clause-noted
returns-clause-noted c = record {
  past = c.insights_at-both.ensures.past;
  told = λ name r is at.
      noted c.args.self.now name (head_value c.args.head.now) r (recorded_in c.args.recorded.now) c.args.subject.now c.moment_of_event-moment.result
      c.wall_of.result c.teller_of.result _ c.minute_before-minute.result c.in_ok-steps.steps.items is at c.moment_of_event-moment.ensures c.wall_of.ensures
      c.teller_of.ensures
      (c.with_table-insights.ensures ∙ ap (λ (rows : List Claim). tabled c.insights_at-both.result rows) c.as_slice.ensures.value ∙ c.insights_at-both.ensures.insights r.past at.past)
      c.minute_before-minute.ensures c.in_ok-steps.ensures;
}
