use Rattle.std.proofs.Common.{◌-◌, ◌^◌, sym, subst, arith}
use Rattle.lg_gossip.specs.Support.Sound.{IsSound}
use Rattle.lg_gossip.proofs.queue.Queue.restart.Goals as goal

pub invariant_of-self : goal.invariant_of-self
invariant_of-self c =
    subst (λ qs. IsSound c.args.lambda (2 ^ 64 - 1) c.self.inside.used c.clear_sets.new.sent qs) (sym c.clear.ensures) (record {
      often = c.requires;
      few = omega arith;
      in_order = tt;
      within = tt;
      least = tt;
      some = c.self.invariant.some;
      enough = c.self.invariant.enough;
      below = tt;
      sets = c.clear_sets.ensures c.self.inside.rows.items c.self.invariant.sets;
    })
