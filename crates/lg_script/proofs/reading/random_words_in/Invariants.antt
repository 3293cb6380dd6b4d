use Rattle.std.proofs.Common.{length}
use Rattle.lg_script.specs.Meaning.Bounds.{random_words}
use Rattle.lg_script.specs.Meaning.Values.{random_word_of}
use Rattle.lg_script.specs.Support.Cutting.{words_left}
use Rattle.lg_script.proofs.ReadingLaws.{HasRead}
use Rattle.lg_script.proofs.reading.random_words_in.Given as goal

-- the words so far
abbrev pub invariant-loop-left : goal.invariant-loop-left
invariant-loop-left l = HasRead random_words random_word_of (words_left l.words) (words_left l.left) l.random.items

abbrev pub decreases-loop-left : goal.decreases-loop-left
decreases-loop-left l = length (words_left l.left)
