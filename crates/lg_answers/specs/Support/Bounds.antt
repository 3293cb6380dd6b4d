-- The numbers of the code are those of the definitions.
use Rattle.std.specs.Prelude.{◌≡◌, refl}
use Rattle.lg_answers.specs.declared.explaining.TheConstants.{MISSING_MS}
use Rattle.lg_answers.specs.declared.query.TheConstants.{MAX_WAIT_MS}
use Rattle.lg_answers.specs.Meaning.Explaining.{missing_ms}
use Rattle.lg_answers.specs.Meaning.Queries.{most_wait_ms}

most_wait_ms-is : MAX_WAIT_MS ≡ most_wait_ms
most_wait_ms-is = refl

missing_ms-is : MISSING_MS ≡ missing_ms
missing_ms-is = refl
