use Rattle.std.proofs.Common.{List, ℕ, Option, Some, None}
use Rattle.std.specs.Option.{option_map}
use Rattle.lg_status_server.specs.Meaning.Explaining.{ExplainsIf, asked_of}
use Rattle.lg_status_server.specs.Meaning.Shown.{SiteValue}
use Rattle.lg_status_server.proofs.ExplainLaws.{explained-answer, shown-answer}
use Rattle.lg_status_server.proofs.ShownLaws.{answered}
use Rattle.lg_status_server.proofs.site.NodeSiteSite.answer.Goals as goal

pub returns : goal.returns
returns g c =
    let site : SiteValue = record {
      pass = c.self.inside.pass;
      name = c.self.inside.basis.counters.now.name;
      snapshot = c.self.inside.snapshot;
      changes = c.self.inside.changes;
      config = c.self.inside.basis.config;
      leave = c.self.inside.basis.leave;
      folder = option_map (λ f. f.now) c.self.inside.basis.folder;
      changed = c.self.inside.changed;
      looked = c.self.inside.looked;
    } in
    let path : List ℕ = c.args.path.now in
    let query : Option (List ℕ) = option_map (λ q. q.now) c.args.query in
    let unasked : ExplainsIf (asked_of site.folder path query) None = rw c.in_default.is at c.in_ok-explained.ensures in
    rw (← c.self.view_is) (shown-answer (asked_of site.folder path query) site path query c.answer_to.result unasked
    (answered site path query c.answer_to.result c.self.invariant c.answer_to.ensures))

pub returns-in-Some : goal.returns-in-Some
returns-in-Some g c =
    let site : SiteValue = record {
      pass = c.self.inside.pass;
      name = c.self.inside.basis.counters.now.name;
      snapshot = c.self.inside.snapshot;
      changes = c.self.inside.changes;
      config = c.self.inside.basis.config;
      leave = c.self.inside.basis.leave;
      folder = option_map (λ f. f.now) c.self.inside.basis.folder;
      changed = c.self.inside.changed;
      looked = c.self.inside.looked;
    } in
    let path : List ℕ = c.args.path.now in
    let query : Option (List ℕ) = option_map (λ q. q.now) c.args.query in
    let told : ExplainsIf (asked_of site.folder path query) (Some c.in-Some.answer) = rw c.in-Some.is at c.in_ok-explained.ensures in
    rw (← c.self.view_is) (explained-answer (asked_of site.folder path query) site path query c.in-Some.answer told)
