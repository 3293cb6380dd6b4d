use Rattle.std.proofs.Common.{◌≡◌, ◌≤◌}
use Rattle.lg_http.specs.Meaning.Answers.{Replies}
use Rattle.lg_http.specs.Meaning.Slots.{AreSlots, AreServed, slots_of}
use Rattle.lg_http.proofs.server.Server.serve.Given as goal

abbrev pub invariant-loop-number : goal.invariant-loop-number
invariant-loop-number g l = record {
  served :
      AreSlots (Replies g.S.Site.answers g.S.Site.acts g.S.Site.version g.S.Site.waits l.initial.desk.hosts) g.S.Site.later l.initial.desk.site (slots_of l.initial.self)
      → AreServed (Replies g.S.Site.answers g.S.Site.acts g.S.Site.version g.S.Site.waits l.initial.desk.hosts) g.S.Site.later l.desk.site l.initial.self.slots l.self.slots;
  goes_on : g.S.Site.later l.initial.desk.site l.desk.site;
  hosts : l.desk.hosts ≡ l.initial.desk.hosts;
  turns : l.number ≤ l.self.counts.turns;
}
