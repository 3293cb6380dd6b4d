use Rattle.std.proofs.Common.{Option, ap, sym, subst, ◌∙◌}
use Rattle.lg_rules.specs.declared.claim.Claim.{Claim}
use Rattle.lg_membership.specs.Meaning.Gossip.{put_if_leaves}
use Rattle.lg_membership.specs.Meaning.Applied.{IsLeave}
use Rattle.lg_membership.specs.Support.Room.{HasPlace}
use Rattle.lg_membership.specs.Support.Rows.{rows_by}
use Rattle.lg_membership.specs.Support.State.{if_open, queue_with, leave_group, changed_by_leave}
use Rattle.lg_membership.proofs.FactLaws.{leave-state}
use Rattle.lg_membership.proofs.LeaveLaws.{leave-log}
use Rattle.lg_membership.proofs.Reaching.{reached-leave}
use Rattle.lg_membership.proofs.Rooms.{leave_place}
use Rattle.lg_membership.proofs.membership.Membership.leave.Goals as goal

pub put-requires : goal.put-requires
put-requires c =
    let puts =
    c.put_if_leaves.ensures
    ∙ (λ i. put_if_leaves (c.has_left-has_left.ensures i) (c.leave.ensures.own i)) in
    subst (λ (o : Option Claim). HasPlace o c.self.inside.queue) (sym puts)
    (leave_place _ c.self.invariant.reached)

pub invariant_of-self : goal.invariant_of-self
invariant_of-self c =
    let inside = c.self.inside in
    let puts =
    c.put_if_leaves.ensures
    ∙ (λ i. put_if_leaves (c.has_left-has_left.ensures i) (c.leave.ensures.own i)) in
    let queue = c.put.ensures ∙ ap (λ (o : Option Claim). queue_with o inside.queue) puts in
    record {
      reached =
          reached-leave _ _
          (λ i. record {
            config = inside.config;
            own = c.leave.ensures.own i;
            members = inside.members;
            suspicions = rows_by inside.members.names inside.suspicions;
            queue = queue i;
          })
          c.self.invariant.reached;
      known = c.self.invariant.known;
    }

pub returns-clause-log : goal.returns-clause-log
returns-clause-log c = λ log is.
    let inside = c.self.inside in
    let puts =
    c.put_if_leaves.ensures
    ∙ (λ i. put_if_leaves (c.has_left-has_left.ensures i) (c.leave.ensures.own i)) in
    let queue = c.put.ensures ∙ ap (λ (o : Option Claim). queue_with o inside.queue) puts in
    (λ i. record {
      config = inside.config;
      own = c.leave.ensures.own i;
      members = inside.members;
      suspicions = rows_by inside.members.names inside.suspicions;
      queue = queue i;
    })
    ∙ ap leave_group (c.self.view_is ∙ is)
    ∙ leave-state log

pub returns-clause-meaning : goal.returns-clause-meaning
returns-clause-meaning c = λ log is.
    let puts =
    c.put_if_leaves-2.ensures
    ∙ (λ i. put_if_leaves (c.has_left-has_left.ensures i) (c.leave.ensures.own i)) in
    let result = c.if_open.ensures ∙ ap (if_open c.self.inside.config) puts ∙ ap changed_by_leave (c.self.view_is ∙ is) in
    subst (IsLeave log) (sym result) (leave-log log)
