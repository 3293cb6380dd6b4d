use Rattle.lg_status_server.proofs.ShownLaws.{kept_on}
use Rattle.lg_status_server.proofs.looked.show.Goals as goal

pub returns-clause-kept : goal.returns-clause-kept
returns-clause-kept c shown events is =
    kept_on c.args.changes.now c.catch_up.new.self c.args.found.changes shown events c.catch_up.ensures is.changes_are
