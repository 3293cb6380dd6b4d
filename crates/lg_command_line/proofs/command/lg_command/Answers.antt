use Rattle.std.proofs.Common.{refl}
use Rattle.std.specs.Fmt.{digits}
use Rattle.std.proofs.lemmas.Result.{IfOk-weaker}
use Rattle.lg_command_line.specs.Meaning.Apps.{lg_app}
use Rattle.lg_command_line.proofs.CommandLaws.{program_is}
use Rattle.lg_command_line.proofs.command.lg_command.Goals as goal

pub returns : goal.returns
unfolding digits
returns c = IfOk-weaker c.with_commands.result _ _ (λ command is. program_is command _ _ lg_app _ is c.bare_lg.ensures refl) c.with_commands.ensures
