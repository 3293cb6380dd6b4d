use Rattle.std.proofs.Common.{◌≡◌, ◌++◌, true}
use Rattle.lg_client.specs.Meaning.Leaving.{connected_again}
use Rattle.lg_client.proofs.leaving.await_end.Given as goal

-- the connections so far were made
abbrev pub invariant-loop-turn : goal.invariant-loop-turn
invariant-loop-turn g l = g.A.Asker.tells ≡ true → g.A.Asker.log l.asker ≡ g.A.Asker.log l.initial.asker ++ connected_again l.turn
