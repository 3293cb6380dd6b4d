use Rattle.std.proofs.Common.{sym, ◌∙◌, ap}
use Rattle.lg_rules.specs.Meaning.Own.{OwnValue, own_heard}
use Rattle.lg_rules.proofs.KeyOrder.{names_equal, names_differ}
use Rattle.lg_rules.proofs.OwnLaws.{own_hearing-same, own_heard-same, own_hearing-other, own_heard-other, own-cons, own-other}
use Rattle.lg_rules.proofs.own.Own.hear.Goals as goal

pub returns-then-eq-clause-hearing : goal.returns-then-eq-clause-hearing
returns-then-eq-clause-hearing c =
    let same = names_equal c.args.claim.now.name c.self.inside.name (sym c.eq.ensures ∙ c.if-eq.true) ∙ ap (λ (me : OwnValue). me.name) c.self.view_is in
    c.hear_status.ensures.hearing ∙ sym (own_hearing-same c.args.self.now c.args.claim.now same)

pub returns-then-eq-clause-own : goal.returns-then-eq-clause-own
returns-then-eq-clause-own c =
    let same = names_equal c.args.claim.now.name c.self.inside.name (sym c.eq.ensures ∙ c.if-eq.true) ∙ ap (λ (me : OwnValue). me.name) c.self.view_is in
    c.hear_status.ensures.own ∙ sym (own_heard-same c.args.self.now c.args.claim.now same)

pub returns-then-eq-clause-past : goal.returns-then-eq-clause-past
returns-then-eq-clause-past c = λ past e.
    returns-then-eq-clause-own c ∙ ap (λ me. own_heard me c.args.claim.now) e ∙ sym (own-cons c.args.self.now.name c.args.self.now.addr c.args.claim.now past)

pub returns-then-eq-clause-others : goal.returns-then-eq-clause-others
returns-then-eq-clause-others c = λ past d e. own-other c.args.self.now.name c.args.self.now.addr d past e

pub returns-else-eq-clause-hearing : goal.returns-else-eq-clause-hearing
returns-else-eq-clause-hearing c =
    let differ = names_differ c.args.claim.now.name c.self.inside.name (sym c.eq.ensures ∙ c.if-eq.false) in
    sym (own_hearing-other c.args.self.now c.args.claim.now (λ e. differ (e ∙ sym (ap (λ (me : OwnValue). me.name) c.self.view_is))))

pub returns-else-eq-clause-own : goal.returns-else-eq-clause-own
returns-else-eq-clause-own c =
    let differ = names_differ c.args.claim.now.name c.self.inside.name (sym c.eq.ensures ∙ c.if-eq.false) in
    sym (own_heard-other c.args.self.now c.args.claim.now (λ e. differ (e ∙ sym (ap (λ (me : OwnValue). me.name) c.self.view_is))))

pub returns-else-eq-clause-past : goal.returns-else-eq-clause-past
returns-else-eq-clause-past c = λ past e.
    returns-else-eq-clause-own c ∙ ap (λ me. own_heard me c.args.claim.now) e ∙ sym (own-cons c.args.self.now.name c.args.self.now.addr c.args.claim.now past)

pub returns-else-eq-clause-others : goal.returns-else-eq-clause-others
returns-else-eq-clause-others c = λ past d e. own-other c.args.self.now.name c.args.self.now.addr d past e
