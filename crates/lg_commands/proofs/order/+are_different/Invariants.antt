use Rattle.std.proofs.Common.{length}
use Rattle.lg_commands.proofs.order.+are_different.Given as goal

-- each call is on fewer names
abbrev pub decreases-are_different : goal.decreases-are_different
decreases-are_different l = length l.names.now
