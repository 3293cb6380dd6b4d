use Rattle.lg_node.proofs.node.run_node.Goals as goal

pub returns-in-Err-clause-refused : goal.returns-in-Err-clause-refused
returns-in-Err-clause-refused g c = c.in-Err.ensures.early c.args.start.now.config.now

pub returns-in-Err-status_server-clause-refused : goal.returns-in-Err-status_server-clause-refused
returns-in-Err-status_server-clause-refused g c = c.in-Err-status_server.ensures.early c.args.start.now.config.now
