use Rattle.std.proofs.Common.{◌≡◌, ap, sym, ◌∙◌}
use Rattle.lg_rules.specs.Meaning.Rows.{name_cmp, is_same}
use Rattle.lg_rules.proofs.KeyOrder.{names_order, same_key}
use Rattle.lg_membership.specs.Support.Rows.{rows_by}
use Rattle.lg_membership.specs.Support.State.{forget_from_group}
use Rattle.lg_membership.proofs.FactLaws.{forget-state}
use Rattle.lg_membership.proofs.Forgetting.{forget_none, forget_other}
use Rattle.lg_membership.proofs.Reaching.{reached-forget}
use Rattle.lg_membership.proofs.Rooms.{reached-ordered}
use Rattle.lg_membership.proofs.RowsByNames.{rises-kept}
use Rattle.lg_membership.proofs.SuspicionLaws.{ended-after}
use Rattle.lg_membership.proofs.membership.Membership.forget.Goals as goal
use Rattle.lg_membership.proofs.membership.Membership.forget.Goals.{Then-is_same_name, After-remove}

-- its own name
nothing : (c : Then-is_same_name) → c.args.self.now ≡ forget_from_group c.args.name.now c.args.self.now
nothing c =
    let n = c.args.name.now in
    let same =
    ap (is_same name_cmp n) (sym c.name.ensures) ∙ sym c.is_same_name.ensures ∙ c.if-is_same_name.true in
    sym c.self.view_is ∙ forget_none n _ c.self.invariant.reached same ∙ ap (forget_from_group n) c.self.view_is

pub returns-then-is_same_name-clause-state : goal.returns-then-is_same_name-clause-state
returns-then-is_same_name-clause-state c = nothing c

pub returns-then-is_same_name-clause-log : goal.returns-then-is_same_name-clause-log
returns-then-is_same_name-clause-log c = λ log is.
    nothing c ∙ ap (forget_from_group c.args.name.now) is ∙ forget-state c.args.name.now log

pub end-requires : goal.end-requires
end-requires c =
    let inside = c.self.inside in
    rises-kept inside.members.names inside.suspicions (reached-ordered _ c.self.invariant.reached).suspects

-- another's name
pub give_back-requires-clause-other : goal.give_back-requires-clause-other
give_back-requires-clause-other c = λ same.
    let n = c.args.name.now in
    let own = same ∙ sym (reached-ordered _ c.self.invariant.reached).one_name ∙ sym c.name.ensures in
    let is = sym (same_key names_order n c.name.result own) ∙ sym c.is_same_name.ensures ∙ c.if-is_same_name.false in
    absurd cc

pub give_back-requires-clause-known : goal.give_back-requires-clause-known
give_back-requires-clause-known c = c.end.ensures.known c.self.inside.members.names c.self.invariant.known

-- what is left
state_is : (c : After-remove) → record {
  config = c.self.inside.config;
  own = c.self.inside.own;
  members = c.give_back.new.members;
  suspicions = rows_by c.give_back.new.members.names c.give_back.new.self;
  queue = c.remove.new.self;
} ≡ forget_from_group c.args.name.now (record {
  config = c.self.inside.config;
  own = c.self.inside.own;
  members = c.self.inside.members;
  suspicions = rows_by c.self.inside.members.names c.self.inside.suspicions;
  queue = c.self.inside.queue;
})
state_is c =
    let n = c.args.name.now in
    let inside = c.self.inside in
    let before = rows_by inside.members.names inside.suspicions in
    let other =
    ap (is_same name_cmp n) (sym c.name.ensures) ∙ sym c.is_same_name.ensures ∙ c.if-is_same_name.false in
    let suspicions =
    c.give_back.ensures.rows ∙ c.end.ensures.rows inside.members.names
    ∙ ended-after n before (reached-ordered _ c.self.invariant.reached).suspects in
    (λ i. record {
      config = inside.config;
      own = inside.own;
      members = c.give_back.ensures.members i;
      suspicions = suspicions i;
      queue = c.remove.ensures i;
    })
    ∙ forget_other n _ c.self.invariant.reached other

pub invariant_of-self : goal.invariant_of-self
invariant_of-self c = record {
  reached = reached-forget c.args.name.now _ _ (state_is c) c.self.invariant.reached;
  known = c.give_back.ensures.known;
}

pub returns-clause-state : goal.returns-clause-state
returns-clause-state c = state_is c ∙ ap (forget_from_group c.args.name.now) c.self.view_is

pub returns-clause-log : goal.returns-clause-log
returns-clause-log c = λ log is.
    state_is c ∙ ap (forget_from_group c.args.name.now) (c.self.view_is ∙ is) ∙ forget-state c.args.name.now log
