-- Worked first numbers.
use Rattle.std.specs.Prelude.{◌≡◌, refl}
use Rattle.lg_run.specs.Meaning.FirstNumber.{first_number}

-- 1 is the least, and 4,294,967,295 the greatest
the_least : first_number 0 0 ≡ 1
the_least = refl

the_greatest : first_number 4294967293 1 ≡ 4294967295
the_greatest = refl

behind_the_greatest : first_number 4294967293 2 ≡ 1
behind_the_greatest = refl

-- two starts, a millisecond apart
two_starts : first_number 1764453600000000000 7 ≡ 2066045243
two_starts = refl

a_later_start : first_number 1764453600001000000 7 ≡ 2067045243
a_later_start = refl
