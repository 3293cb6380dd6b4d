use Rattle.lg_rules.specs.declared.members.TheConstants.{MAX_OTHERS}
use Rattle.lg_probe.proofs.Joining.{room_joined}
use Rattle.lg_probe.proofs.order.orders_have_room.Goals as goal

pub returns : goal.returns
returns c = λ past name few. room_joined past name MAX_OTHERS few
