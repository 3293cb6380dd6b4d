use Rattle.std.proofs.Common.{Option, ap, sym, subst, ◌∙◌}
use Rattle.lg_rules.specs.declared.claim.Claim.{Claim}
use Rattle.lg_membership.specs.Meaning.Gossip.{put_if_answered}
use Rattle.lg_membership.specs.Support.Room.{HasPlace}
use Rattle.lg_membership.specs.Support.Rows.{rows_by}
use Rattle.lg_membership.specs.Support.State.{GroupState, is_answered, queue_with}
use Rattle.lg_membership.proofs.Reaching.{reached-own}
use Rattle.lg_membership.proofs.Rooms.{own_place}
use Rattle.lg_membership.proofs.membership.Membership.apply_own.Goals as goal

pub put-requires : goal.put-requires
put-requires c =
    let same = c.requires ∙ ap (λ (s : GroupState). s.own.name) (sym c.self.view_is) in
    let answered = c.is_answered-answered.ensures ∙ ap (is_answered c.args.claim.now) (sym c.self.view_is) in
    let hearing = c.hear-heard.ensures.hearing in
    let puts =
    c.put_if_answered.ensures
    ∙ (λ i. put_if_answered (answered i) (hearing i) (c.hear-heard.ensures.own i)) in
    subst (λ (o : Option Claim). HasPlace o c.self.inside.queue) (sym puts)
    (own_place c.args.claim.now _ c.self.invariant.reached same)

pub invariant_of-self : goal.invariant_of-self
invariant_of-self c =
    let inside = c.self.inside in
    let same = c.requires ∙ ap (λ (s : GroupState). s.own.name) (sym c.self.view_is) in
    let answered = c.is_answered-answered.ensures ∙ ap (is_answered c.args.claim.now) (sym c.self.view_is) in
    let hearing = c.hear-heard.ensures.hearing in
    let puts =
    c.put_if_answered.ensures
    ∙ (λ i. put_if_answered (answered i) (hearing i) (c.hear-heard.ensures.own i)) in
    let queue = c.put.ensures ∙ ap (λ (o : Option Claim). queue_with o inside.queue) puts in
    record {
      reached =
          reached-own _ _ c.args.claim.now same
          (λ i. record {
            config = inside.config;
            own = c.hear-heard.ensures.own i;
            members = inside.members;
            suspicions = rows_by inside.members.names inside.suspicions;
            queue = queue i;
          })
          c.self.invariant.reached;
      known = c.self.invariant.known;
    }
