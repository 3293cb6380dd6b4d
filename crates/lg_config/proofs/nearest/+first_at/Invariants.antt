use Rattle.std.proofs.Common.{length}
use Rattle.lg_config.proofs.nearest.+first_at.Given as goal

-- each call is on fewer keys
abbrev pub decreases-first_at : goal.decreases-first_at
decreases-first_at l = length l.known.now
