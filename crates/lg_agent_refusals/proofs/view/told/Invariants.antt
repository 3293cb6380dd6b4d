use Rattle.lg_agent_refusals.proofs.view.told.Given as goal

abbrev pub ghosts-goes_on : goal.ghosts-goes_on
ghosts-goes_on g a = record { book = a.book.seen.book }
