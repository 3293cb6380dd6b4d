use Rattle.lg_http.specs.Meaning.Answers.{Replies}
use Rattle.lg_http.proofs.SlotLaws.{AreSlots-put, ends_read, noted_read}
use Rattle.lg_http.proofs.slots.Slots.put.Goals as goal

pub returns-clause-served : goal.returns-clause-served
returns-clause-served g c = λ hosts site h. record {
  slots = rw c.fill.ensures (AreSlots-put (Replies g.S.Site.answers g.S.Site.acts g.S.Site.version g.S.Site.waits hosts) g.S.Site.later g.met.S.Site.order site c.args.self.now.slots.items c.args.number c.args.peer c.requires.room c.requires.fresh h);
  ended = ends_read (Replies g.S.Site.answers g.S.Site.acts g.S.Site.version g.S.Site.waits hosts) g.S.Site.later site _ c.args.number c.args.at _ _ _ c.requires.room c.index.ensures c.note_end.ensures h;
}

pub returns-clause-noted : goal.returns-clause-noted
returns-clause-noted g c = noted_read _ c.args.number c.args.at _ _ _ c.requires.room c.index.ensures c.note_end.ensures
