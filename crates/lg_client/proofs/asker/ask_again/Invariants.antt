use Rattle.std.proofs.Common.{◌≡◌, ◌<◌, true}
use Rattle.lg_client.specs.Meaning.Waiting.{most_closed}
use Rattle.lg_client.specs.Support.Receiving.{IsPatient}
use Rattle.lg_client.proofs.asker.ask_again.Given as goal

-- the delays so far were waited for
abbrev pub invariant-loop-turn : goal.invariant-loop-turn
invariant-loop-turn g l = record {
  few : l.closed < most_closed;
  patient : g.A.Asker.tells ≡ true → IsPatient (g.A.Asker.log l.initial.asker) (g.A.Asker.log l.asker) l.turn l.closed;
}
