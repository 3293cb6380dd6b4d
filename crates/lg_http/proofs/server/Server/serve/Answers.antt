use Rattle.std.proofs.Common.{◌∙◌, inr, arith}
use Rattle.lg_http.specs.Meaning.Answers.{Replies}
use Rattle.lg_http.proofs.SlotLaws.{served_more, served_free}
use Rattle.lg_http.proofs.server.Server.serve.Goals as goal

pub loop-number-preserved : goal.loop-number-preserved
loop-number-preserved g c =
    let was = c.loop-number.invariant in
    let made = c.turn.ensures in
    record {
      served = λ h.
          served_more g.S.Site.answers g.S.Site.acts g.S.Site.version g.S.Site.waits c.args.desk.now.hosts c.loop-number.desk.hosts g.S.Site.later g.met.S.Site.order c.loop-number.desk.site c.turn.new.desk.site
          c.args.self.now.slots c.loop-number.self.slots c.turn.new.self.slots was.hosts made.goes_on made.served (was.served h);
      goes_on = g.met.S.Site.order.both _ _ _ was.goes_on made.goes_on;
      hosts = made.hosts ∙ was.hosts;
      turns = omega (arith, was.turns, made.turns);
    }

pub returns-in-Err-clause-served : goal.returns-in-Err-clause-served
returns-in-Err-clause-served g c = λ h.
    let was = c.loop-number.invariant in
    let made = c.turn.ensures in
    served_more g.S.Site.answers g.S.Site.acts g.S.Site.version g.S.Site.waits c.args.desk.now.hosts c.loop-number.desk.hosts g.S.Site.later g.met.S.Site.order c.loop-number.desk.site c.turn.new.desk.site
    c.args.self.now.slots c.loop-number.self.slots c.turn.new.self.slots was.hosts made.goes_on made.served (was.served h)

pub returns-in-Err-clause-free : goal.returns-in-Err-clause-free
returns-in-Err-clause-free g c =
    let was = c.loop-number.invariant in
    let made = c.turn.ensures in
    served_free (Replies g.S.Site.answers g.S.Site.acts g.S.Site.version g.S.Site.waits c.args.desk.now.hosts) g.S.Site.later c.args.desk.now.site c.turn.new.desk.site c.args.self.now.slots c.turn.new.self.slots
    (λ h. served_more g.S.Site.answers g.S.Site.acts g.S.Site.version g.S.Site.waits c.args.desk.now.hosts c.loop-number.desk.hosts g.S.Site.later g.met.S.Site.order c.loop-number.desk.site c.turn.new.desk.site
    c.args.self.now.slots c.loop-number.self.slots c.turn.new.self.slots was.hosts made.goes_on made.served (was.served h))

pub returns-clause-free : goal.returns-clause-free
returns-clause-free g c =
    served_free (Replies g.S.Site.answers g.S.Site.acts g.S.Site.version g.S.Site.waits c.args.desk.now.hosts) g.S.Site.later c.args.desk.now.site c.loop-number.desk.site c.args.self.now.slots c.loop-number.self.slots
    c.loop-number.invariant.served

pub returns-then-is_some-clause-free : goal.returns-then-is_some-clause-free
returns-then-is_some-clause-free g c =
    served_free (Replies g.S.Site.answers g.S.Site.acts g.S.Site.version g.S.Site.waits c.args.desk.now.hosts) g.S.Site.later c.args.desk.now.site c.loop-number.desk.site c.args.self.now.slots c.loop-number.self.slots
    c.loop-number.invariant.served

pub returns-clause-stopped : goal.returns-clause-stopped
returns-clause-stopped g c = λ _. inr (omega (arith, c.loop-number.invariant.turns))
