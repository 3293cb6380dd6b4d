use Rattle.std.proofs.Common.{refl}
use Rattle.lg_http.proofs.ChainLaws.{chain_answered}
use Rattle.lg_http.proofs.peer.giving.advance.Goals as goal

pub returns-clause-answers : goal.returns-clause-answers
returns-clause-answers g c =
    let made = c.advance.ensures.calls in
    (made.0, made.1, (chain_answered g.S.Site.answers g.S.Site.acts g.S.Site.version g.S.Site.waits _ _ _ c.requires made.2).1)

pub returns-clause-site : goal.returns-clause-site
returns-clause-site g c =
    let made = c.advance.ensures.calls in
    let same = (chain_answered g.S.Site.answers g.S.Site.acts g.S.Site.version g.S.Site.waits _ _ _ c.requires made.2).0 in
    rw same refl

pub returns-clause-hosts : goal.returns-clause-hosts
returns-clause-hosts g c =
    let made = c.advance.ensures.calls in
    let same = (chain_answered g.S.Site.answers g.S.Site.acts g.S.Site.version g.S.Site.waits _ _ _ c.requires made.2).0 in
    rw same refl
