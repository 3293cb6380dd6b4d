use Rattle.lg_http.specs.Meaning.Answers.{Replies}
use Rattle.lg_http.proofs.ChainLaws.{answered_same}
use Rattle.lg_http.proofs.slots.note_slot.Goals as goal

pub returns-in-Some-clause-answered : goal.returns-in-Some-clause-answered
returns-in-Some-clause-answered g c = λ hosts site h.
    answered_same (Replies g.S.Site.answers g.S.Site.acts g.S.Site.version g.S.Site.waits hosts) g.S.Site.later site _ _ c.note.ensures.calls (rw c.in-Some.is at h)
