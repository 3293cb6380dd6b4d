use Rattle.lg_node_refusals.proofs.watching.run.Given as goal

abbrev pub ghosts-run_in-A-PairName : goal.ghosts-run_in-A-PairName
ghosts-run_in-A-PairName g a = record { book = a.book.seen.book }

abbrev pub ghosts-run_in-A-AgentName : goal.ghosts-run_in-A-AgentName
ghosts-run_in-A-AgentName g a = record { places = a.places }
