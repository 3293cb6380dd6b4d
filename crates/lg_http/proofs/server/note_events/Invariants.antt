use Rattle.lg_http.specs.declared.hosts.Hosts.{Hosts}
use Rattle.lg_http.specs.Meaning.Answers.{Replies}
use Rattle.lg_http.specs.Meaning.Slots.{AreSlots, AreServed}
use Rattle.lg_http.proofs.server.note_events.Given as goal

abbrev pub invariant-loop-event : goal.invariant-loop-event
invariant-loop-event g l =
    (hosts : Hosts) (site : g.row.S.Denot)
    → AreSlots (Replies g.S.Site.answers g.S.Site.acts g.S.Site.version g.S.Site.waits hosts) g.S.Site.later site l.initial.slots.slots.items
    → AreServed (Replies g.S.Site.answers g.S.Site.acts g.S.Site.version g.S.Site.waits hosts) g.S.Site.later site l.initial.slots l.slots
