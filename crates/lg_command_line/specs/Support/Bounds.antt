-- The bound and the default of the code are those of the definitions.
use Rattle.std.specs.Prelude.{◌≡◌, refl}
use Rattle.lg_command_line.specs.Meaning.Ranges.{default_at, most_run_ms}
use Rattle.lg_command_line.specs.declared.asked.TheConstants.{DEFAULT_AT, MAX_RUN_MS}

most_run_ms-is : MAX_RUN_MS ≡ most_run_ms
most_run_ms-is = refl

default_at-is : DEFAULT_AT.now ≡ default_at
default_at-is = refl
