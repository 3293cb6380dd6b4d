use Rattle.std.proofs.Common.{refl}
use Rattle.lg_http.specs.Meaning.Answers.{Replies}
use Rattle.lg_http.proofs.SlotLaws.{served_none, served_both}
use Rattle.lg_http.proofs.server.note_events.Goals as goal

pub loop-event-init : goal.loop-event-init
loop-event-init g c = λ hosts site h.
    served_none (Replies g.S.Site.answers g.S.Site.acts g.S.Site.version g.S.Site.waits hosts) g.S.Site.later site _ _ refl h

pub loop-event-preserved : goal.loop-event-preserved
loop-event-preserved g c = λ hosts site h.
    let was = c.loop-event.invariant hosts site h in
    served_both (Replies g.S.Site.answers g.S.Site.acts g.S.Site.version g.S.Site.waits hosts) g.S.Site.later site _ _ _ was
    (c.note.ensures hosts site was.slots)
