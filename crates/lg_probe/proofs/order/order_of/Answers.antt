use Rattle.std.proofs.Common.{arith}
use Rattle.lg_rules.specs.declared.members.TheConstants.{MAX_OTHERS}
use Rattle.lg_probe.proofs.Joining.{none_joined, next_room, next_joined, all_joined}
use Rattle.lg_probe.proofs.order.order_of.Goals as goal

pub loop-name-init : goal.loop-name-init
loop-name-init c = none_joined c.args.names.now c.new-order.result c.new-order.ensures

pub join-requires : goal.join-requires
join-requires c = next_room c.args.names.now c.loop-name.name-index c.loop-name.order c.name-item.result MAX_OTHERS c.loop-name.invariant (omega (arith, c.requires, c.loop-name-test.true))

pub loop-name-preserved : goal.loop-name-preserved
loop-name-preserved c =
    next_joined c.args.names.now c.loop-name.name-index _ c.loop-name.order c.join.new.self c.name-item.result c.name-item.result (omega arith) c.loop-name-test.true c.name-item.is c.loop-name.invariant c.join.ensures.past

pub returns : goal.returns
returns c = all_joined c.args.names.now c.loop-name.name-index c.loop-name.order (omega (arith, c.loop-name-test.false)) c.loop-name.invariant
