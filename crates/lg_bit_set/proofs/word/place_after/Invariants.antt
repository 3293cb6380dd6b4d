use Rattle.lg_bit_set.specs.Support.Steps.{IsLeftOver}
use Rattle.lg_bit_set.proofs.word.place_after.Given as goal

abbrev pub invariant-bits : goal.invariant-bits
invariant-bits l = IsLeftOver l.word l.counter l.rest
