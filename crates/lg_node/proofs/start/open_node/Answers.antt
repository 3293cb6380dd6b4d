use Rattle.lg_node.proofs.start.open_node.Goals as goal

pub returns-in-Ok-open_agent-clause-told : goal.returns-in-Ok-open_agent-clause-told
returns-in-Ok-open_agent-clause-told g c = (c.now-start.result, c.in-Ok-open_agent.ensures.told.1)
