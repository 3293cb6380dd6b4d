use Rattle.lg_seal.proofs.KeySpellings.{digits_spell, lower_spells, upper_spells}
use Rattle.lg_seal.proofs.laws.spelled_key.Goals as goal

pub returns-clause-digits : goal.returns-clause-digits
returns-clause-digits c = digits_spell

pub returns-clause-lower : goal.returns-clause-lower
returns-clause-lower c = lower_spells

pub returns-clause-upper : goal.returns-clause-upper
returns-clause-upper c = upper_spells
