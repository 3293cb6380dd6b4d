use Rattle.std.proofs.Common.{◌≡◌}
use Rattle.lg_http.specs.declared.hosts.Hosts.{Hosts}
use Rattle.lg_http.specs.Meaning.Answers.{Replies}
use Rattle.lg_http.specs.Meaning.Slots.{AreSlots, AreServed, slots_of}
use Rattle.lg_http.proofs.server.Server.accept_some.Given as goal

abbrev pub invariant-loop : goal.invariant-loop
invariant-loop g l = record {
  served :
      (hosts : Hosts) (site : g.row.S.Denot)
      → AreSlots (Replies g.S.Site.answers g.S.Site.acts g.S.Site.version g.S.Site.waits hosts) g.S.Site.later site (slots_of l.fn.self)
      → AreServed (Replies g.S.Site.answers g.S.Site.acts g.S.Site.version g.S.Site.waits hosts) g.S.Site.later site l.fn.self.slots l.self.slots;
  turns : l.self.counts.turns ≡ l.fn.self.counts.turns;
}
