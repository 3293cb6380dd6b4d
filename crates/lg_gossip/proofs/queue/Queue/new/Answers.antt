use Rattle.std.proofs.Common.{◌-◌, ◌^◌, replicate, sym, subst}
use Rattle.lg_gossip.specs.declared.sets.TheConstants.{SETS}
use Rattle.lg_gossip.specs.Support.Sound.{IsSound}
use Rattle.lg_gossip.proofs.Soundness.{sound-new}
use Rattle.lg_gossip.proofs.queue.Queue.new.Goals as goal

pub invariant_of-result : goal.invariant_of-result
invariant_of-result c =
    subst (λ qs. IsSound c.args.lambda (2 ^ 64 - 1) 1 (replicate SETS c.new.result) qs) (sym c.new-2.ensures)
    (sound-new c.args.lambda (2 ^ 64 - 1) c.new.result c.requires c.new.ensures)
