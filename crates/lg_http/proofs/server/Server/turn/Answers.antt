use Rattle.std.proofs.Common.{◌≡◌, subst, sym, rules}
use Rattle.lg_http.specs.declared.slots.Slots.{Slots}
use Rattle.lg_http.specs.Meaning.Answers.{Replies}
use Rattle.lg_http.specs.Meaning.Slots.{AreSlots, AreServed}
use Rattle.lg_http.proofs.SlotLaws.{served_both}
use Rattle.lg_http.proofs.server.Server.turn.Goals as goal

pub returns-clause-served : goal.returns-clause-served
returns-clause-served g c = λ h.
    let hosts = c.args.desk.now.hosts in
    let site = c.run_clients-wait_ms.new.desk.site in
    let replies = Replies g.S.Site.answers g.S.Site.acts g.S.Site.version g.S.Site.waits hosts in
    let ran = c.run_clients-wait_ms.ensures.served h in
    let noted = c.note_events.ensures hosts site ran.slots in
    let same : c.if-note_events.self.slots ≡ c.note_events.new.slots = search rules in
    let accepted =
    c.accept_some.ensures.served hosts site
    (subst (λ (slots : Slots). AreSlots replies g.S.Site.later site slots.slots.items) (sym same) noted.slots) in
    served_both replies g.S.Site.later site _ _ _ ran
    (served_both replies g.S.Site.later site _ _ _ noted
    (subst (λ (slots : Slots). AreServed replies g.S.Site.later site slots c.accept_some.new.self.slots) same accepted))
