use Rattle.std.proofs.Common.{◌≤◌, List, length, sym, subst}
use Rattle.lg_gossip.specs.declared.queue.TheConstants.{MAX_QUEUED}
use Rattle.lg_gossip.specs.declared.queued.Queued.{Queued}
use Rattle.lg_gossip.specs.Support.Sets.{AreSets}
use Rattle.lg_gossip.specs.Support.Sound.{IsSound}
use Rattle.lg_gossip.proofs.Soundness.{sound-put}
use Rattle.lg_gossip.proofs.queue.Queue.put.Goals as goal

pub invariant_of-self : goal.invariant_of-self
invariant_of-self c =
    let rows = c.put_fresh.ensures.rows in
    let few = subst (λ (qs : List Queued). length qs ≤ MAX_QUEUED) rows c.put_fresh.ensures.few in
    let sets = subst (AreSets c.put_fresh.new.sent) rows c.put_fresh.ensures.sets in
    subst (λ qs. IsSound c.self.inside.lambda 0 c.self.inside.used c.put_fresh.new.sent qs) (sym rows)
    (sound-put c.self.inside.lambda c.self.inside.fewest c.self.inside.used c.self.inside.version c.args.claim c.self.inside.sent
    c.put_fresh.new.sent c.self.inside.rows.items c.self.invariant few sets)
