use Rattle.lg_agent_refusals.proofs.agent.told.Given as goal

abbrev pub ghosts-closed-A-PairName : goal.ghosts-closed-A-PairName
ghosts-closed-A-PairName g a = record { book = a.book.seen.book }

abbrev pub ghosts-closed-A-AgentName : goal.ghosts-closed-A-AgentName
ghosts-closed-A-AgentName g a = record { places = a.places }
