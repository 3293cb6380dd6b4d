use Rattle.std.proofs.Common.{ℕ, Bool, [], Some, ap, sym, subst, ◌∙◌}
use Rattle.lg_rules.specs.declared.version.Version.{Version}
use Rattle.lg_rules.specs.Meaning.Table.{known_of}
use Rattle.lg_timing.proofs.ConfigLemmas.{ranges}
use Rattle.lg_gossip.specs.Meaning.Queue.{QueueValue}
use Rattle.lg_membership.specs.Meaning.Gossip.{own_arrival}
use Rattle.lg_membership.specs.Support.Rows.{rows_by, AreKnownTo}
use Rattle.lg_membership.specs.Support.State.{queue_with}
use Rattle.lg_membership.proofs.FactLaws.{open-state}
use Rattle.lg_membership.proofs.Reaching.{reached-open}
use Rattle.lg_membership.proofs.membership.Membership.open_with.Goals as goal

abbrev empty_queue : ℕ → Version → QueueValue
empty_queue lambda v = record { lambda = lambda; version = v; rows = [] }

pub restart-requires-2 : goal.restart-requires-2
restart-requires-2 c = (ranges c.args.config.now c.requires).lambda_most

pub invariant_of-self : goal.invariant_of-self
invariant_of-self c =
    let restarted = c.restart-2.ensures ∙ ap (λ (v : Version). empty_queue c.args.config.now.lambda v) c.version.ensures in
    let arrived =
    c.own_arrival.ensures ∙ (λ i. own_arrival (c.version-2.ensures i) (c.new-self-inside.ensures i)) in
    let queue = c.put.ensures ∙ (λ i. queue_with (arrived i) (restarted i)) in
    let members = c.restart.ensures ∙ ap (λ (b : Bool). known_of b c.args.config.now.name []) c.does_forget.ensures in
    record {
      reached =
          reached-open _ _ c.args.config.now
          (λ i. record {
            config = Some (c.copy.ensures i);
            own = c.new-self-inside.ensures i;
            members = members i;
            suspicions = rows_by (members i).names (c.clear.ensures i);
            queue = queue i;
          })
          c.requires c.self.invariant.reached;
      known = subst (AreKnownTo c.restart.new.self.names) (sym c.clear.ensures) tt;
    }

pub returns-clause-log : goal.returns-clause-log
returns-clause-log c = λ log is.
    let restarted = c.restart-2.ensures ∙ ap (λ (v : Version). empty_queue c.args.config.now.lambda v) c.version.ensures in
    let arrived =
    c.own_arrival.ensures ∙ (λ i. own_arrival (c.version-2.ensures i) (c.new-self-inside.ensures i)) in
    let queue = c.put.ensures ∙ (λ i. queue_with (arrived i) (restarted i)) in
    let members = c.restart.ensures ∙ ap (λ (b : Bool). known_of b c.args.config.now.name []) c.does_forget.ensures in
    (λ i. record {
      config = Some (c.copy.ensures i);
      own = c.new-self-inside.ensures i;
      members = members i;
      suspicions = rows_by (members i).names (c.clear.ensures i);
      queue = queue i;
    })
    ∙ open-state c.args.config.now log
