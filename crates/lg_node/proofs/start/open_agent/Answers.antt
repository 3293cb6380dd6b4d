use Rattle.lg_node.proofs.start.open_agent.Goals as goal

pub returns-in-Ok-open-clause-told : goal.returns-in-Ok-open-clause-told
returns-in-Ok-open-clause-told g c =
    let told = c.in-Ok-open.ensures.told in
    (told.0, rw c.copy.ensures at told.1)
