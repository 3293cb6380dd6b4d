use Rattle.lg_agent_tests.proofs.view.playing.told.Given as goal

abbrev pub ghosts-play_pair : goal.ghosts-play_pair
ghosts-play_pair g a = record { book = a.book.seen.book }
