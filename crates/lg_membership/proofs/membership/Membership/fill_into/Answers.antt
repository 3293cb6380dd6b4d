use Rattle.std.proofs.Common.{ap, sym, ◌∙◌}
use Rattle.lg_gossip.specs.Meaning.Queue.{filled}
use Rattle.lg_membership.specs.Meaning.Gossip.{version_sent, buddy_record}
use Rattle.lg_membership.specs.Support.Rows.{rows_by}
use Rattle.lg_membership.specs.Support.State.{GroupState, send_from_group, taken_in}
use Rattle.lg_membership.proofs.FactLaws.{send-state}
use Rattle.lg_membership.proofs.Reaching.{reached-send}
use Rattle.lg_membership.proofs.membership.Membership.fill_into.Goals as goal

pub invariant_of-self : goal.invariant_of-self
invariant_of-self c =
    let inside = c.self.inside in
    let version = c.version.ensures ∙ ap (λ (s : GroupState). version_sent s.config) (sym c.self.view_is) in
    let buddy =
    c.buddy_record-buddy.ensures ∙ ap (λ v. buddy_record v c.args.to.now inside.members.table) version in
    let queue = c.fill_into.ensures.queue ∙ (λ i. filled inside.queue (buddy i) (c.live.ensures.count i)) in
    record {
      reached =
          reached-send _ _ (taken_in c.args.to.now)
          (λ i. record {
            config = inside.config;
            own = inside.own;
            members = inside.members;
            suspicions = rows_by inside.members.names inside.suspicions;
            queue = queue i;
          })
          c.self.invariant.reached;
      known = c.self.invariant.known;
    }

pub returns-clause-log : goal.returns-clause-log
returns-clause-log c = λ log is.
    let inside = c.self.inside in
    let version = c.version.ensures ∙ ap (λ (s : GroupState). version_sent s.config) (sym c.self.view_is) in
    let buddy =
    c.buddy_record-buddy.ensures ∙ ap (λ v. buddy_record v c.args.to.now inside.members.table) version in
    let queue = c.fill_into.ensures.queue ∙ (λ i. filled inside.queue (buddy i) (c.live.ensures.count i)) in
    let sent : GroupState → GroupState = λ s. send_from_group (taken_in c.args.to.now s) s in
    (λ i. record {
      config = inside.config;
      own = inside.own;
      members = inside.members;
      suspicions = rows_by inside.members.names inside.suspicions;
      queue = queue i;
    })
    ∙ ap sent (c.self.view_is ∙ is)
    ∙ send-state _ log
