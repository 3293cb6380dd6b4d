use Rattle.std.proofs.Common.{length}
use Rattle.lg_timing.proofs.config.+have_distinct_names.Given as goal

-- each call is on fewer seeds
abbrev pub decreases-have_distinct_names : goal.decreases-have_distinct_names
decreases-have_distinct_names l = length l.seeds.now
