use Rattle.lg_timing.proofs.TableLemmas.{ratio_most}
use Rattle.lg_timing.proofs.tables.ratio.Goals as goal
use Rattle.lg_timing.specs.Meaning.Tables.{ratio_of}

pub returns-clause-within_one : goal.returns-clause-within_one
unfolding ratio_of
returns-clause-within_one c = ratio_most c.args.k c.args.c c.requires.within c.requires.came
