use Rattle.std.proofs.Common.{◌≤◌, take}
use Rattle.lg_turns.specs.Meaning.Links.{WereHanded}
use Rattle.lg_loops.proofs.sending.send_all.Given as goal

abbrev pub invariant-loop-outgoing : goal.invariant-loop-outgoing
invariant-loop-outgoing g l = record {
  few : l.unsent ≤ l.outgoing-index;
  handed : WereHanded g.L.Link.tells (g.L.Link.log l.initial.link) (g.L.Link.log l.link) (g.L.Link.failed l.initial.link) (g.L.Link.failed l.link) (take l.outgoing-index l.sends) l.unsent;
}
