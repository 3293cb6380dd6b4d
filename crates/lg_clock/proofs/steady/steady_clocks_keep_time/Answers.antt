use Rattle.lg_clock.proofs.Keeping.{all_steady}
use Rattle.lg_clock.proofs.steady.steady_clocks_keep_time.Goals as goal

pub returns : goal.returns
returns c = all_steady
