use Rattle.lg_example_threads.proofs.run.Given as goal

abbrev pub ghosts-share-A-PairName : goal.ghosts-share-A-PairName
ghosts-share-A-PairName g a = record { book = a.book.seen.book }

abbrev pub ghosts-share-A-AgentName : goal.ghosts-share-A-AgentName
ghosts-share-A-AgentName g a = record { places = a.places }
