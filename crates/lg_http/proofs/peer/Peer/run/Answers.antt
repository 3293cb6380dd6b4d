use Rattle.std.proofs.Common.{rules, subst, ◌∙◌}
use Rattle.lg_http.specs.declared.hosts.Hosts.{Hosts}
use Rattle.lg_http.specs.Meaning.Answers.{AddsCalls, RepliesAmong}
use Rattle.lg_http.specs.Meaning.Peers.{calls_of}
use Rattle.lg_http.proofs.ChainLaws.{adds_both}
use Rattle.lg_http.proofs.TimeLaws.{keeps_both}
use Rattle.lg_http.proofs.peer.Peer.run.Goals as goal

pub loop-preserved : goal.loop-preserved
loop-preserved g c =
    let was = c.loop.invariant in
    let is = c.step-step-in-loop.ensures in
    let turn = c.args.turn.now in
    record {
      current = is.current;
      parks = λ awake full goes_on. is.parks (was.parks awake full (search rules)) full goes_on;
      time = λ goes_on. keeps_both turn.at c.args.self.now c.loop.self c.step-step-in-loop.new.self (was.time (search rules)) (is.time goes_on);
      answers =
          adds_both (RepliesAmong g.S.Site.answers g.S.Site.acts g.S.Site.version g.S.Site.waits c.args.desk.now.hosts turn.others turn.is_loopback)
          c.args.desk.now.site (calls_of c.args.self.now) (calls_of c.loop.self)
          (calls_of c.step-step-in-loop.new.self) was.answers
          (subst (λ (hosts : Hosts). AddsCalls (RepliesAmong g.S.Site.answers g.S.Site.acts g.S.Site.version g.S.Site.waits hosts turn.others turn.is_loopback)
          c.args.desk.now.site (calls_of c.loop.self) (calls_of c.step-step-in-loop.new.self)) was.hosts
          (subst (λ site. AddsCalls (RepliesAmong g.S.Site.answers g.S.Site.acts g.S.Site.version g.S.Site.waits c.loop.desk.hosts turn.others turn.is_loopback) site
          (calls_of c.loop.self) (calls_of c.step-step-in-loop.new.self)) was.site is.answers));
      site = is.site ∙ was.site;
      hosts = is.hosts ∙ was.hosts;
      bounded = λ h. is.bounded (was.bounded h);
    }
