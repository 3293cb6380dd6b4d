use Rattle.lg_node.proofs.node.run_node.Given as goal

abbrev pub ghosts-open_and_serve-A-PairName : goal.ghosts-open_and_serve-A-PairName
ghosts-open_and_serve-A-PairName g a = record { book = a.book.seen.book }

abbrev pub ghosts-open_and_serve-A-AgentName : goal.ghosts-open_and_serve-A-AgentName
ghosts-open_and_serve-A-AgentName g a = record { places = 5 }
