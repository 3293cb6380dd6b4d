use Rattle.std.proofs.Common.{◌≡◌, sym, ◌∙◌, ap, subst}
use Rattle.lg_rules.specs.Meaning.Rows.{name_cmp, without_row}
use Rattle.lg_rules.proofs.KeyOrder.{names_order}
use Rattle.lg_rules.proofs.Removing.{removed-row, without-missing}
use Rattle.lg_gossip.specs.Meaning.Queue.{QueueValue, queued_name, removed}
use Rattle.lg_gossip.specs.Support.Sets.{AreSets}
use Rattle.lg_gossip.specs.Support.Sound.{IsSound}
use Rattle.lg_gossip.proofs.Soundness.{sound-removed}
use Rattle.lg_gossip.proofs.queue.Queue.remove.Goals as goal

rows-left : (c : goal.After-close_row)
    → c.remove.new.self.items ≡ without_row name_cmp queued_name c.args.name.now c.self.inside.rows.items
rows-left c =
    c.remove.ensures
    ∙ removed-row names_order queued_name c.args.name.now c.self.inside.rows.items c.in-Ok.index
    c.self.invariant.in_order c.in-Ok.ensures

pub invariant_of-self : goal.invariant_of-self
invariant_of-self c =
    let rows = c.self.inside.rows.items in
    let closed = c.close_row.ensures rows c.self.invariant.sets c.self.invariant.below c.self.invariant.few c.in-Ok.ensures.within in
    let sets = subst (AreSets c.close_row.new.sent) (sym c.remove.ensures ∙ rows-left c) closed in
    subst (λ qs. IsSound c.self.inside.lambda c.self.inside.fewest c.self.inside.used c.close_row.new.sent qs) (sym (rows-left c))
    (sound-removed c.self.inside.lambda c.self.inside.fewest c.self.inside.used c.args.name.now c.self.inside.sent
    c.close_row.new.sent rows c.self.invariant sets)

pub returns-in-Ok : goal.returns-in-Ok
returns-in-Ok c =
    (λ i. record {
      lambda = c.self.inside.lambda;
      version = c.self.inside.version;
      rows = rows-left c i;
    })
    ∙ ap (λ (q : QueueValue). removed c.args.name.now q) c.self.view_is

pub returns-in_default : goal.returns-in_default
returns-in_default c =
    let n = c.args.name.now in
    let rows = c.self.inside.rows.items in
    let kept = without-missing names_order queued_name n rows c.self.invariant.in_order c.in_default.ensures.missing in
    subst (λ (q : QueueValue). q ≡ removed n q) c.self.view_is
    (λ i. record { lambda = c.self.inside.lambda; version = c.self.inside.version; rows = sym kept i })
