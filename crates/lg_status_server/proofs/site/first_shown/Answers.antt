use Rattle.std.proofs.Common.{[]}
use Rattle.lg_status_server.proofs.ShownLaws.{kept_first}
use Rattle.lg_status_server.proofs.site.first_shown.Goals as goal

pub returns-clause-kept : goal.returns-clause-kept
returns-clause-kept g c events is =
    kept_first c.in_ok-changes.changes c.show.new.changes events c.in_ok-changes.ensures (c.show.ensures.kept [] events is)
