use Rattle.std.proofs.Common.{fold, take}
use Rattle.clap.specs.Simple.{new_app}
use Rattle.lg_command_line.specs.Support.Options.{with_option}
use Rattle.lg_command_line.proofs.CommandLaws.{MakesApp}
use Rattle.lg_command_line.proofs.command.with_options.Given as goal

abbrev pub invariant-loop-option : goal.invariant-loop-option
invariant-loop-option l = MakesApp l.command (fold with_option (new_app l.row.name.now) (take l.option-index l.row.options.now))
