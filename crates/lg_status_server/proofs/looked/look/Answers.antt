use Rattle.lg_status_server.proofs.ShownLaws.{looks_through}
use Rattle.lg_status_server.proofs.looked.look.Goals as goal

pub returns-in-Ok-2 : goal.returns-in-Ok-2
returns-in-Ok-2 g c =
    looks_through c.take_in.result c.args.pass.now c.version.new.self c.take_in.new.pass c.args.snapshot.now c.take_in.new.snapshot
    c.args.changes.now c.take_in.new.changes c.in-Ok.ensures.1 c.take_in.ensures
