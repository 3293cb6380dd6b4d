use Rattle.lg_answers_refusals.proofs.showing.play.Given as goal

abbrev pub ghosts-play_in-A-PairName : goal.ghosts-play_in-A-PairName
ghosts-play_in-A-PairName g a = record { book = a.book.seen.book }

abbrev pub ghosts-play_in-A-AgentName : goal.ghosts-play_in-A-AgentName
ghosts-play_in-A-AgentName g a = record { places = a.places }
