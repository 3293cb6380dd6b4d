use Rattle.lg_node.proofs.threads.join_threads.Goals as goal

pub returns-clause-faults : goal.returns-clause-faults
returns-clause-faults g c = c.loops_with-both.ensures.served.0

pub returns-clause-served : goal.returns-clause-served
returns-clause-served g c = c.loops_with-both.ensures.served.1

pub returns-clause-told : goal.returns-clause-told
returns-clause-told g c = c.loops_with-both.ensures.served.2
