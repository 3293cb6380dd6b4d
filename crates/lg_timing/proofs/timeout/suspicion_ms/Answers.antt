use Rattle.lg_timing.specs.Meaning.Timeouts.{range_of}
use Rattle.lg_timing.proofs.timeout.suspicion_ms.Goals as goal

pub after-requires : goal.after-requires
unfolding range_of
after-requires c = rw c.new.ensures c.requires.counted
