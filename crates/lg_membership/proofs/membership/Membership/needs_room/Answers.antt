use Rattle.std.proofs.Common.{false, not, cond, ap, sym, ◌∙◌}
use Rattle.lg_rules.specs.Meaning.Rows.{name_cmp, is_same}
use Rattle.lg_rules.specs.Meaning.Table.{table_needs_room}
use Rattle.lg_membership.specs.Support.State.{needs_room_in}
use Rattle.lg_membership.proofs.Forgetting.{needs_room-log}
use Rattle.lg_membership.proofs.membership.Membership.needs_room.Goals as goal

pub returns-then-not-is_same_name-clause-log : goal.returns-then-not-is_same_name-clause-log
returns-then-not-is_same_name-clause-log c = λ log is.
    let claim = c.args.claim.now in
    let other =
    ap (is_same name_cmp claim.name) (sym c.name.ensures) ∙ sym c.is_same_name.ensures ∙ c.if-not-is_same_name.true in
    c.needs_room.ensures ∙ ap (λ b. cond b false (table_needs_room c.self.inside.members claim)) (sym other)
    ∙ ap (needs_room_in claim) (c.self.view_is ∙ is)
    ∙ needs_room-log claim log

pub returns-else-not-is_same_name-clause-log : goal.returns-else-not-is_same_name-clause-log
returns-else-not-is_same_name-clause-log c = λ log is.
    let claim = c.args.claim.now in
    let same =
    ap (is_same name_cmp claim.name) (sym c.name.ensures) ∙ sym c.is_same_name.ensures ∙ c.if-not-is_same_name.false in
    ap not c.if-not-is_same_name.false
    ∙ ap (λ b. cond b false (table_needs_room c.self.inside.members claim)) (sym same)
    ∙ ap (needs_room_in claim) (c.self.view_is ∙ is)
    ∙ needs_room-log claim log
