use Rattle.std.proofs.Common.{length}
use Rattle.lg_config.proofs.nearest.+fewest_edits.Given as goal

-- each call is on fewer keys
abbrev pub decreases-fewest_edits : goal.decreases-fewest_edits
decreases-fewest_edits l = length l.known.now
