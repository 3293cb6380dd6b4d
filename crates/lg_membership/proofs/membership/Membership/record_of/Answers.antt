use Rattle.std.proofs.Common.{◌≡◌, true, false, cond, Some, sym, ap, ◌∙◌}
use Rattle.lg_rules.specs.declared.claim.Claim.{Claim}
use Rattle.lg_rules.specs.Meaning.Claim.{name_of}
use Rattle.lg_rules.specs.Meaning.Own.{own_record}
use Rattle.lg_rules.specs.Meaning.Rows.{name_cmp, is_same, row_at}
use Rattle.lg_membership.specs.Support.State.{GroupState, shown}
use Rattle.lg_membership.proofs.Shown.{found-opened}
use Rattle.lg_membership.proofs.membership.Membership.record_of.Goals as goal

pub returns-then-is_same_name-clause-state : goal.returns-then-is_same_name-clause-state
returns-then-is_same_name-clause-state c =
    let own = c.self.inside.own in
    let rest = row_at name_cmp name_of c.args.name.now c.self.inside.members.table in
    let found = found-opened c.self.inside.config own c.self.inside.members.table c.args.name.now c.if-is_none.ensures in
    let hit : is_same name_cmp own.name c.args.name.now ≡ true =
    ap (λ (r : Claim). is_same name_cmp r.name c.args.name.now) (sym c.record-own.ensures) ∙ sym c.is_same_name.ensures ∙ c.if-is_same_name.true in
    ap (λ (r : Claim). Some r) c.record-own.ensures ∙ sym (found ∙ ap (λ b. cond b (Some (own_record own)) rest) hit)
    ∙ ap (λ (s : GroupState). row_at name_cmp name_of c.args.name.now (shown s)) c.self.view_is

pub returns-then-is_same_name-clause-log : goal.returns-then-is_same_name-clause-log
returns-then-is_same_name-clause-log c = λ log is.
    returns-then-is_same_name-clause-state c ∙ ap (λ (s : GroupState). row_at name_cmp name_of c.args.name.now (shown s)) is

pub returns-clause-state : goal.returns-clause-state
returns-clause-state c =
    let own = c.self.inside.own in
    let rest = row_at name_cmp name_of c.args.name.now c.self.inside.members.table in
    let found = found-opened c.self.inside.config own c.self.inside.members.table c.args.name.now c.if-is_none.ensures in
    let miss : is_same name_cmp own.name c.args.name.now ≡ false =
    ap (λ (r : Claim). is_same name_cmp r.name c.args.name.now) (sym c.record-own.ensures) ∙ sym c.is_same_name.ensures ∙ c.if-is_same_name.false in
    c.copied.ensures ∙ c.get.ensures ∙ sym (found ∙ ap (λ b. cond b (Some (own_record own)) rest) miss)
    ∙ ap (λ (s : GroupState). row_at name_cmp name_of c.args.name.now (shown s)) c.self.view_is

pub returns-clause-log : goal.returns-clause-log
returns-clause-log c = λ log is.
    returns-clause-state c ∙ ap (λ (s : GroupState). row_at name_cmp name_of c.args.name.now (shown s)) is
