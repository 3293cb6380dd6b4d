use Rattle.std.proofs.Common.{◌≡◌, ◌++◌, take}
use Rattle.lg_recording.specs.Meaning.Spelling.{spelled_words}
use Rattle.lg_recording.proofs.writing.put_words.Given as goal

-- the words so far
abbrev pub invariant-loop-word : goal.invariant-loop-word
invariant-loop-word l = l.out.items ≡ l.initial.out.items ++ spelled_words (take l.word-index l.words)
