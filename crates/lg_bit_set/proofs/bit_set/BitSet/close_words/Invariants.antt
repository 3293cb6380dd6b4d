use Rattle.lg_bit_set.specs.Support.Steps.{AreFallen}
use Rattle.lg_bit_set.specs.Support.Words.{words_from}
use Rattle.lg_bit_set.proofs.bit_set.BitSet.close_words.Given as goal

abbrev pub invariant-words : goal.invariant-words
invariant-words l = AreFallen (words_from 4 l.fn.self) l.self-inside.words l.number l.i
