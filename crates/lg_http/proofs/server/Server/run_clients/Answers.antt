use Rattle.lg_http.specs.Meaning.Answers.{Replies}
use Rattle.lg_http.specs.Meaning.Slots.{slots_of}
use Rattle.lg_http.proofs.SlotLaws.{slots_until, served_until}
use Rattle.lg_http.proofs.server.Server.run_clients.Goals as goal

pub returns-then-refresh-version-clause-served : goal.returns-then-refresh-version-clause-served
returns-then-refresh-version-clause-served g c = λ h.
    let replies = Replies g.S.Site.answers g.S.Site.acts g.S.Site.version g.S.Site.waits c.args.desk.now.hosts in
    served_until replies g.S.Site.later g.met.S.Site.order _ _ c.refresh.ensures.goes_on _ _
    (c.run-rest.ensures.served
    (slots_until replies g.S.Site.later g.met.S.Site.order _ _ c.refresh-version.ensures.goes_on (slots_of c.args.self.now) h))

pub returns-else-refresh-version-clause-served : goal.returns-else-refresh-version-clause-served
returns-else-refresh-version-clause-served g c = λ h.
    let replies = Replies g.S.Site.answers g.S.Site.acts g.S.Site.version g.S.Site.waits c.args.desk.now.hosts in
    served_until replies g.S.Site.later g.met.S.Site.order _ _ c.refresh.ensures.goes_on _ _
    (c.run-rest.ensures.served
    (slots_until replies g.S.Site.later g.met.S.Site.order _ _ c.refresh-version.ensures.goes_on (slots_of c.args.self.now) h))

pub returns-then-refresh-version-clause-goes_on : goal.returns-then-refresh-version-clause-goes_on
returns-then-refresh-version-clause-goes_on g c =
    g.met.S.Site.order.both _ _ _ c.refresh-version.ensures.goes_on (rw c.run-rest.ensures.site at c.refresh.ensures.goes_on)

pub returns-else-refresh-version-clause-goes_on : goal.returns-else-refresh-version-clause-goes_on
returns-else-refresh-version-clause-goes_on g c =
    g.met.S.Site.order.both _ _ _ c.refresh-version.ensures.goes_on (rw c.run-rest.ensures.site at c.refresh.ensures.goes_on)
