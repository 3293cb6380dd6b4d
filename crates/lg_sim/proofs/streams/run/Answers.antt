use Rattle.std.proofs.Common.{rules}
use Rattle.lg_sim.proofs.streams.run.Goals as goal

pub returns-in_err-write_text : goal.returns-in_err-write_text
returns-in_err-write_text g c = search rules
