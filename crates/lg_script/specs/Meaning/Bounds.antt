-- The least and the greatest numbers of a script (this project's choice).
use Rattle.std.specs.Prelude.{ℕ}

-- the greatest moment, in milliseconds
abbrev pub greatest_moment : ℕ
greatest_moment = 1000000000000000

-- how many random words a tick or a leave has, and the greatest random word, which is the greatest number of 32 bits
abbrev pub random_words : ℕ
random_words = 8

abbrev pub greatest_random_word : ℕ
greatest_random_word = 4294967295
