use Rattle.std.proofs.Common.{◌≡◌, ◌≢◌, ◌≤◌}
use Rattle.lg_http.specs.declared.peer.Step.TheVariants.{Gone}
use Rattle.lg_http.specs.declared.slots.TheConstants.{MAX_PARKED}
use Rattle.lg_http.specs.Meaning.Answers.{RepliesAmong}
use Rattle.lg_http.specs.Meaning.Peers.{Answers, IsCurrent, IsBounded, KeepsTime}
use Rattle.lg_http.specs.Meaning.Phases.{IsAwake}
use Rattle.lg_http.proofs.peer.Peer.run.Given as goal

-- what holds after a step
abbrev pub invariant-loop : goal.invariant-loop
invariant-loop g l = record {
  current : l.step ≢ Gone → IsCurrent l.turn.at l.turn.version l.self;
  parks : IsAwake l.fn.self.phase → MAX_PARKED ≤ l.turn.others → l.step ≢ Gone → IsAwake l.self.phase;
  time : l.step ≢ Gone → KeepsTime l.turn.at l.fn.self l.self;
  answers : Answers (RepliesAmong g.S.Site.answers g.S.Site.acts g.S.Site.version g.S.Site.waits l.fn.desk.hosts l.turn.others l.turn.is_loopback) l.fn.desk.site l.fn.self l.self;
  site : l.desk.site ≡ l.fn.desk.site;
  hosts : l.desk.hosts ≡ l.fn.desk.hosts;
  bounded : IsBounded l.fn.self → IsBounded l.self;
}
