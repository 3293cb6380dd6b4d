use Rattle.lg_node_refusals.proofs.playing.told.Given as goal

abbrev pub ghosts-play_case-A-PairName : goal.ghosts-play_case-A-PairName
ghosts-play_case-A-PairName g a = record { book = a.book.seen.book }

abbrev pub ghosts-play_case-A-AgentName : goal.ghosts-play_case-A-AgentName
ghosts-play_case-A-AgentName g a = record { places = a.places }
