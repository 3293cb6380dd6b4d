use Rattle.std.proofs.Common.{◌≡◌, ◌*◌, drop}
use Rattle.std.specs.List.{slice_get}
use Rattle.lg_bit_set.specs.Meaning.Flags.{numbers_from, nth_number}
use Rattle.lg_bit_set.specs.Support.Words.{flags_of}
use Rattle.lg_bit_set.proofs.bit_set.BitSet.first.Given as goal

abbrev pub invariant-words : goal.invariant-words
invariant-words l =
    nth_number l.self 0 ≡ slice_get (numbers_from (64 * l.i) (flags_of (drop l.i l.self-inside.words))) 0
