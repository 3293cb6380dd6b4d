use Rattle.std.proofs.Common.{rules}
use Rattle.lg_commands.proofs.run.answer_run.Goals as goal

pub returns-in_err-write_text : goal.returns-in_err-write_text
returns-in_err-write_text g c = search rules
