use Rattle.std.proofs.Common.{subst, sym}
use Rattle.lg_probe.specs.Support.Relays.{AreKeptRelays}
use Rattle.lg_probe.proofs.relays.Relays.new.Goals as goal

pub invariant_of-result : goal.invariant_of-result
invariant_of-result c = subst (AreKeptRelays 0) (sym c.new.ensures) (record { apart = tt; up_to = tt })
