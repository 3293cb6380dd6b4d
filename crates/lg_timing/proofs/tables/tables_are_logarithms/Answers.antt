use Rattle.std.proofs.Common.{refl}
use Rattle.lg_timing.proofs.TableLemmas.{log10_is, ratio_is}
use Rattle.lg_timing.specs.Meaning.Tables.{ratio_of}
use Rattle.lg_timing.proofs.tables.tables_are_logarithms.Goals as goal

pub returns-clause-logarithms : goal.returns-clause-logarithms
returns-clause-logarithms c = log10_is

pub returns-clause-quotients : goal.returns-clause-quotients
returns-clause-quotients c = λ k came some few within. (ratio_is k came some few within).is_log

pub returns-clause-none : goal.returns-clause-none
unfolding ratio_of
returns-clause-none c = refl
