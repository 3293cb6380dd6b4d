use Rattle.lg_parts_tests.proofs.suspicion.raised_by_d.Goals as goal

pub returns : goal.returns
returns c = c.raise.ensures.known c.args.members.now.names
