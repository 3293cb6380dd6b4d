use Rattle.std.proofs.Common.{map}
use Rattle.std.specs.Str.Parse.{digits_value}
use Rattle.lg_commands.specs.Meaning.Choosing.{is_word}
use Rattle.lg_commands.proofs.ListLaws.{HasRead}
use Rattle.lg_commands.proofs.order.words_in.Given as goal

-- each part so far is a word
abbrev pub invariant-loop-part : goal.invariant-loop-part
invariant-loop-part l = HasRead is_word (digits_value 10) (map (λ p. p.now) l.yielded) l.words.items
