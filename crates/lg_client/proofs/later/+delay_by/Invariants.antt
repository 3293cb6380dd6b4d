use Rattle.std.proofs.Common.{length}
use Rattle.lg_client.proofs.later.+delay_by.Given as goal

abbrev pub decreases-delay_by : goal.decreases-delay_by
decreases-delay_by l = length l.fields.now
