use Rattle.std.proofs.Common.{ℕ, List, ◌∙◌, inl, subst}
use Rattle.lg_text.specs.Meaning.Reporting.{Reports}
use Rattle.lg_resolve.proofs.lines.tell_news.Goals as goal

pub returns-in-Ok : goal.returns-in-Ok
returns-in-Ok g c =
    let reported = g.F.FaultStream.reported in
    rw c.in-Some.is (inl (subst (λ (text : List ℕ). Reports (reported c.args.faults.now) (reported c.report.new.faults) text) (c.as_str.ensures.value ∙ c.in-Ok.ensures) c.report.ensures))
