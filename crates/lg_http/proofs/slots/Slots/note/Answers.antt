use Rattle.std.proofs.Common.{rules, refl}
use Rattle.lg_http.specs.Meaning.Answers.{Replies}
use Rattle.lg_http.proofs.SlotLaws.{slots_noted, served_none}
use Rattle.lg_http.proofs.slots.Slots.note.Goals as goal

pub returns-then-number-len : goal.returns-then-number-len
returns-then-number-len g c = λ hosts site h.
    served_none (Replies g.S.Site.answers g.S.Site.acts g.S.Site.version g.S.Site.waits hosts) g.S.Site.later site _ _ refl
    (slots_noted (Replies g.S.Site.answers g.S.Site.acts g.S.Site.version g.S.Site.waits hosts) g.S.Site.later site c.args.self.now.slots.items c.args.number c.index_mut.result.now c.note_slot.new.slot
    (search rules) c.index_mut.ensures.value c.note_slot.ensures.parked c.note_slot.ensures.bounded (c.note_slot.ensures.answered hosts site) h)

pub returns-else-number-len : goal.returns-else-number-len
returns-else-number-len g c = λ hosts site h. served_none (Replies g.S.Site.answers g.S.Site.acts g.S.Site.version g.S.Site.waits hosts) g.S.Site.later site _ _ refl h
