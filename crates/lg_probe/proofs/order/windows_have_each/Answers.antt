use Rattle.std.proofs.Common.{arith}
use Rattle.lg_probe.proofs.WindowLaws.{window_after, nobody_after}
use Rattle.lg_probe.proofs.order.windows_have_each.Goals as goal

pub returns : goal.returns
returns c = record {
  each = λ past words name named many. window_after past words name named (omega (arith, many));
  none = nobody_after;
}
