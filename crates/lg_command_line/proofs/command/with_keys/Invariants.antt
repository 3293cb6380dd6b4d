use Rattle.std.proofs.Common.{fold, take}
use Rattle.clap.specs.Simple.{app_of}
use Rattle.lg_command_line.specs.Support.Options.{with_key_rule}
use Rattle.lg_command_line.proofs.CommandLaws.{MakesApp}
use Rattle.lg_command_line.proofs.command.with_keys.Given as goal

abbrev pub invariant-loop-key : goal.invariant-loop-key
invariant-loop-key l = MakesApp l.with_some (fold with_key_rule (app_of l.fn.command) (take l.key-index l.keys))
