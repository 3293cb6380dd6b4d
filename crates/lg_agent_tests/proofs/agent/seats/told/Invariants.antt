use Rattle.lg_agent_tests.proofs.agent.seats.told.Given as goal

abbrev pub ghosts-calls-A-PairName : goal.ghosts-calls-A-PairName
ghosts-calls-A-PairName g a = record { book = a.book.seen.book }

abbrev pub ghosts-calls-A-AgentName : goal.ghosts-calls-A-AgentName
ghosts-calls-A-AgentName g a = record { places = a.places }
