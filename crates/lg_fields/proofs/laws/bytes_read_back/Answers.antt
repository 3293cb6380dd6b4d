use Rattle.std.proofs.Common.{refl}
use Rattle.lg_fields.proofs.Texts.{byte_takes}
use Rattle.lg_fields.proofs.laws.bytes_read_back.Goals as goal

pub returns-clause-again : goal.returns-clause-again
returns-clause-again c = λ b rest. refl

pub returns-clause-takes : goal.returns-clause-takes
returns-clause-takes c = byte_takes
