use Rattle.std.proofs.Common.{refl}
use Rattle.lg_http.specs.Meaning.Answers.{RepliesAmong}
use Rattle.lg_http.specs.Meaning.Peers.{calls_of}
use Rattle.lg_http.proofs.ChainLaws.{adds_nothing}
use Rattle.lg_http.proofs.slots.run_peer.Goals as goal

pub returns-then-not-is_due-clause-answers : goal.returns-then-not-is_due-clause-answers
returns-then-not-is_due-clause-answers g c =
    adds_nothing
    (RepliesAmong g.S.Site.answers g.S.Site.acts g.S.Site.version g.S.Site.waits c.args.desk.now.hosts c.args.turn.now.others c.args.turn.now.is_loopback)
    c.args.desk.now.site
    (calls_of c.args.peer.now) (calls_of c.args.peer.now) refl

pub returns-in-Waiting-clause-answers : goal.returns-in-Waiting-clause-answers
returns-in-Waiting-clause-answers g c = c.run.ensures.answers

pub returns-in-Busy-clause-answers : goal.returns-in-Busy-clause-answers
returns-in-Busy-clause-answers g c = c.run.ensures.answers

pub returns-in-Gone-clause-answers : goal.returns-in-Gone-clause-answers
returns-in-Gone-clause-answers g c = c.run.ensures.answers
