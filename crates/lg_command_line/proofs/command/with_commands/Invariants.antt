use Rattle.std.proofs.Common.{◌≡◌, take}
use Rattle.clap.specs.Simple.{app_of}
use Rattle.lg_command_line.specs.Support.Options.{with_rows}
use Rattle.lg_command_line.proofs.command.with_commands.Given as goal

abbrev pub invariant-loop-row : goal.invariant-loop-row
invariant-loop-row l = app_of l.with_some ≡ with_rows (app_of l.fn.lg) (take l.row-index l.rows)
