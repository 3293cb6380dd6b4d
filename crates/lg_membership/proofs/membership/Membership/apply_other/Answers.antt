use Rattle.std.proofs.Common.{◌≡◌, ◌≢◌, false, Option, ap, sym, subst, ◌∙◌}
use Rattle.lg_rules.specs.declared.claim.Claim.{Claim}
use Rattle.lg_rules.specs.Meaning.Table.{MembersValue, takes, heard, live_in}
use Rattle.lg_membership.specs.Meaning.Gossip.{put_if, counted_or}
use Rattle.lg_membership.specs.Support.Changes.{row_about, suspicions_after, deadline_of_change, is_override}
use Rattle.lg_membership.specs.Support.Changes.{presence_by}
use Rattle.lg_membership.specs.Support.Room.{HasPlace}
use Rattle.lg_membership.specs.Support.Rows.{rows_by}
use Rattle.lg_membership.specs.Support.State.{GroupState, queue_with, apply_other, applied_other, if_open, repeated_in, taken_if}
use Rattle.lg_membership.proofs.Hearings.{override-takes, overrode-takes, counts_for}
use Rattle.lg_membership.proofs.LiveOthers.{presence-counted}
use Rattle.lg_membership.proofs.Reaching.{reached-other}
use Rattle.lg_membership.proofs.Rooms.{reached-ordered, other_place, other_seat}
use Rattle.lg_membership.proofs.RowsByNames.{rises-kept, seat-kept, known-heard, rows-heard, change-heard}
use Rattle.lg_membership.proofs.membership.Membership.apply_other.Goals as goal
use Rattle.lg_membership.proofs.membership.Membership.apply_other.Goals.{After-if_open}

pub hear-heard-requires : goal.hear-heard-requires
hear-heard-requires c = λ same.
    c.requires (same ∙ sym (reached-ordered _ c.self.invariant.reached).one_name
    ∙ ap (λ (s : GroupState). s.own.name) c.self.view_is)

pub suspect-deadline-requires-clause-rises : goal.suspect-deadline-requires-clause-rises
suspect-deadline-requires-clause-rises c =
    let inside = c.self.inside in
    rises-kept inside.members.names inside.suspicions (reached-ordered _ c.self.invariant.reached).suspects

pub suspect-deadline-requires-clause-seat : goal.suspect-deadline-requires-clause-seat
suspect-deadline-requires-clause-seat c = λ overrode.
    let inside = c.self.inside in
    let claim = c.args.claim.now in
    seat-kept inside.members.names claim.name inside.suspicions
    (other_seat claim _ c.self.invariant.reached
    (λ same. c.requires (same ∙ ap (λ (s : GroupState). s.own.name) c.self.view_is))
    (overrode-takes inside.members.forgets inside.members.table claim (sym c.hear-heard.ensures.hearing ∙ overrode)))

pub suspect-deadline-requires-clause-known : goal.suspect-deadline-requires-clause-known
suspect-deadline-requires-clause-known c =
    let inside = c.self.inside in
    known-heard (takes inside.members.forgets inside.members.table c.args.claim.now) inside.members.names c.args.claim.now inside.suspicions (ap (λ (k : MembersValue). k.names) c.hear-heard.ensures.members)
    c.self.invariant.known

pub put-requires : goal.put-requires
put-requires c =
    let inside = c.self.inside in
    let claim = c.args.claim.now in
    let table = inside.members.table in
    let names = inside.members.names in
    let rows = inside.suspicions in
    let n = live_in (heard inside.members.forgets table claim) in
    let hearing = c.hear-heard.ensures.hearing in
    let change = change-heard inside.members.forgets inside.config c.args.now claim table names rows hearing (ap (λ (k : MembersValue). k.table) c.hear-heard.ensures.members)
    (ap (λ (k : MembersValue). k.names) c.hear-heard.ensures.members) c.self.invariant.known in
    let deadline = c.suspect-deadline.ensures.deadline ∙ ap deadline_of_change change in
    let row = row_about claim (rows_by names rows) in
    let counts = c.is_to_be_passed_on-counts.ensures
    ∙ counts_for inside.members.forgets table inside.config c.args.now n row claim hearing deadline in
    let repeated = c.leave_to_repeat-repeated.ensures ∙ ap (repeated_in claim) (sym c.self.view_is) in
    let puts = c.put_of_other.ensures ∙ (λ i. put_if c.args.origin (counted_or (counts i) claim (repeated i))) in
    let other : claim.name ≢ inside.own.name = λ same.
    c.requires (same ∙ ap (λ (s : GroupState). s.own.name) c.self.view_is) in
    subst (λ (o : Option Claim). HasPlace o inside.queue) (sym puts)
    (other_place c.args.origin claim _ c.self.invariant.reached other)

-- what the claim leaves
state_is : (c : After-if_open)
    → record {
      config = c.self.inside.config;
      own = c.self.inside.own;
      members = c.hear-heard.new.self;
      suspicions = rows_by c.hear-heard.new.self.names c.suspect-deadline.new.self;
      queue = c.put.new.queue;
    }
    ≡ apply_other c.args.now c.args.origin c.args.claim.now record {
      config = c.self.inside.config;
      own = c.self.inside.own;
      members = c.self.inside.members;
      suspicions = rows_by c.self.inside.members.names c.self.inside.suspicions;
      queue = c.self.inside.queue;
    }
state_is c =
    let inside = c.self.inside in
    let claim = c.args.claim.now in
    let table = inside.members.table in
    let names = inside.members.names in
    let rows = inside.suspicions in
    let n = live_in (heard inside.members.forgets table claim) in
    let hearing = c.hear-heard.ensures.hearing in
    let change = change-heard inside.members.forgets inside.config c.args.now claim table names rows hearing (ap (λ (k : MembersValue). k.table) c.hear-heard.ensures.members)
    (ap (λ (k : MembersValue). k.names) c.hear-heard.ensures.members) c.self.invariant.known in
    let before = rows-heard (takes inside.members.forgets table claim) names claim rows (ap (λ (k : MembersValue). k.names) c.hear-heard.ensures.members) c.self.invariant.known in
    let deadline = c.suspect-deadline.ensures.deadline ∙ ap deadline_of_change change in
    let suspicions = c.suspect-deadline.ensures.rows ∙ (λ i. suspicions_after (change i) (before i)) in
    let row = row_about claim (rows_by names rows) in
    let counts = c.is_to_be_passed_on-counts.ensures
    ∙ counts_for inside.members.forgets table inside.config c.args.now n row claim hearing deadline in
    let repeated = c.leave_to_repeat-repeated.ensures ∙ ap (repeated_in claim) (sym c.self.view_is) in
    let puts = c.put_of_other.ensures ∙ (λ i. put_if c.args.origin (counted_or (counts i) claim (repeated i))) in
    let queue = c.put.ensures ∙ ap (λ (o : Option Claim). queue_with o inside.queue) puts in
    λ i. record {
      config = inside.config;
      own = inside.own;
      members = c.hear-heard.ensures.members i;
      suspicions = suspicions i;
      queue = queue i;
    }

pub invariant_of-self : goal.invariant_of-self
invariant_of-self c = record {
  reached =
      reached-other _ _ c.args.now c.args.origin c.args.claim.now
      (λ same. c.requires (same ∙ ap (λ (s : GroupState). s.own.name) c.self.view_is))
      (state_is c)
      c.self.invariant.reached;
  known = c.suspect-deadline.ensures.known;
}

pub returns-clause-state : goal.returns-clause-state
returns-clause-state c = state_is c ∙ ap (apply_other c.args.now c.args.origin c.args.claim.now) c.self.view_is

pub returns-clause-applied : goal.returns-clause-applied
returns-clause-applied c =
    let inside = c.self.inside in
    let claim = c.args.claim.now in
    let table = inside.members.table in
    let names = inside.members.names in
    let rows = inside.suspicions in
    let after = (ap (λ (k : MembersValue). k.table) c.hear-heard.ensures.members) in
    let hearing = c.hear-heard.ensures.hearing in
    let taken = c.taken_of_other.ensures ∙ ap (λ h. taken_if (is_override h) claim) hearing
    ∙ ap (λ b. taken_if b claim) (override-takes inside.members.forgets table claim) in
    let changed = c.if_open.ensures ∙ ap (if_open inside.config) taken in
    let change = change-heard inside.members.forgets inside.config c.args.now claim table names rows hearing after
    (ap (λ (k : MembersValue). k.names) c.hear-heard.ensures.members) c.self.invariant.known in
    let deadline = c.suspect-deadline.ensures.deadline ∙ ap deadline_of_change change in
    let live = c.live.ensures.count ∙ ap live_in after in
    let presence =
    c.presence_by-presence.ensures
    ∙ (λ i. presence_by (c.live-before.ensures.count i) (live i))
    ∙ presence-counted inside.members.forgets table claim (reached-ordered _ c.self.invariant.reached).rises in
    (λ i. record { changed = changed i; refuted = false; deadline = deadline i; presence = presence i })
    ∙ ap (applied_other c.args.now claim) c.self.view_is
