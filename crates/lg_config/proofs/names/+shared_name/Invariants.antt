use Rattle.std.proofs.Common.{length}
use Rattle.lg_config.proofs.names.+shared_name.Given as goal

-- each call is on fewer names
abbrev pub decreases-shared_name : goal.decreases-shared_name
decreases-shared_name l = length l.names.now
