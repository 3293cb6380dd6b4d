use Rattle.std.proofs.Common.{length}
use Rattle.lg_fields.proofs.reading.FieldReader.+numbers.Given as goal

-- each call is on fewer keys
abbrev pub decreases-numbers : goal.decreases-numbers
decreases-numbers l = length l.keys.now
