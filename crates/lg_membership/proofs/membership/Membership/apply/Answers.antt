use Rattle.std.proofs.Common.{◌≡◌, ◌≢◌, sym, ◌∙◌, ap, subst}
use Rattle.lg_rules.proofs.KeyOrder.{names_order, key_is, apart}
use Rattle.lg_membership.specs.Support.State.{GroupState, apply_to_group, applied}
use Rattle.lg_membership.specs.Meaning.Applied.{IsApplied}
use Rattle.lg_membership.proofs.AppliedLaws.{applied-log}
use Rattle.lg_membership.proofs.Applying.{applied-own, applied-other}
use Rattle.lg_membership.proofs.FactLaws.{apply-state}
use Rattle.lg_membership.proofs.Reaching.{apply-own, apply-other}
use Rattle.lg_membership.proofs.membership.Membership.apply.Goals as goal

pub apply_own-requires : goal.apply_own-requires
apply_own-requires c =
    key_is names_order c.args.claim.now.name c.name.result (sym c.is_same_name.ensures ∙ c.if-is_same_name.true)
    ∙ c.name.ensures ∙ ap (λ (s : GroupState). s.own.name) c.self.view_is

pub apply_other-requires : goal.apply_other-requires
apply_other-requires c =
    λ same.
    apart names_order c.args.claim.now.name c.name.result (sym c.is_same_name.ensures ∙ c.if-is_same_name.false)
    (same ∙ sym (c.name.ensures ∙ ap (λ (s : GroupState). s.own.name) c.self.view_is))

pub returns-then-is_same_name-clause-log : goal.returns-then-is_same_name-clause-log
returns-then-is_same_name-clause-log c = λ log is.
    let same : c.args.claim.now.name ≡ c.args.self.now.own.name =
    key_is names_order c.args.claim.now.name c.name.result (sym c.is_same_name.ensures ∙ c.if-is_same_name.true)
    ∙ c.name.ensures ∙ ap (λ (s : GroupState). s.own.name) c.self.view_is in
    c.apply_own.ensures.state
    ∙ sym (apply-own c.args.now c.args.origin c.args.claim.now c.args.self.now same)
    ∙ ap (apply_to_group c.args.now c.args.origin c.args.claim.now) is
    ∙ apply-state c.args.now c.args.origin c.args.claim.now log

pub returns-else-is_same_name-clause-log : goal.returns-else-is_same_name-clause-log
returns-else-is_same_name-clause-log c = λ log is.
    let other : c.args.claim.now.name ≢ c.args.self.now.own.name = λ same.
    apart names_order c.args.claim.now.name c.name.result (sym c.is_same_name.ensures ∙ c.if-is_same_name.false)
    (same ∙ sym (c.name.ensures ∙ ap (λ (s : GroupState). s.own.name) c.self.view_is)) in
    c.apply_other.ensures.state
    ∙ sym (apply-other c.args.now c.args.origin c.args.claim.now c.args.self.now other)
    ∙ ap (apply_to_group c.args.now c.args.origin c.args.claim.now) is
    ∙ apply-state c.args.now c.args.origin c.args.claim.now log

pub returns-then-is_same_name-clause-meaning : goal.returns-then-is_same_name-clause-meaning
returns-then-is_same_name-clause-meaning c = λ log is.
    let same : c.args.claim.now.name ≡ c.args.self.now.own.name =
    key_is names_order c.args.claim.now.name c.name.result (sym c.is_same_name.ensures ∙ c.if-is_same_name.true)
    ∙ c.name.ensures ∙ ap (λ (s : GroupState). s.own.name) c.self.view_is in
    let result = c.apply_own.ensures.applied ∙ sym (applied-own c.args.now c.args.claim.now c.args.self.now same) ∙ ap (applied c.args.now c.args.claim.now) is in
    subst (IsApplied c.args.now c.args.origin c.args.claim.now log) (sym result) (applied-log c.args.now c.args.origin c.args.claim.now log)

pub returns-else-is_same_name-clause-meaning : goal.returns-else-is_same_name-clause-meaning
returns-else-is_same_name-clause-meaning c = λ log is.
    let other : c.args.claim.now.name ≢ c.args.self.now.own.name = λ same.
    apart names_order c.args.claim.now.name c.name.result (sym c.is_same_name.ensures ∙ c.if-is_same_name.false)
    (same ∙ sym (c.name.ensures ∙ ap (λ (s : GroupState). s.own.name) c.self.view_is)) in
    let result = c.apply_other.ensures.applied ∙ sym (applied-other c.args.now c.args.claim.now c.args.self.now other) ∙ ap (applied c.args.now c.args.claim.now) is in
    subst (IsApplied c.args.now c.args.origin c.args.claim.now log) (sym result) (applied-log c.args.now c.args.origin c.args.claim.now log)
