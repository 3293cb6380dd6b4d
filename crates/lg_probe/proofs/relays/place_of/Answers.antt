use Rattle.std.proofs.Common.{sym}
use Rattle.lg_probe.proofs.UpTo.{none_above}
use Rattle.lg_probe.proofs.relays.place_of.Goals as goal

pub returns-then-greatest-number : goal.returns-then-greatest-number
returns-then-greatest-number c =
    sym (none_above c.args.greatest c.args.number c.args.relays.now c.if-greatest-number.true c.requires)
