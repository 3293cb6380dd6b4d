-- Worked wall times.
use Rattle.std.specs.Prelude.{⊤, ◌≡◌, codes, refl}
use Rattle.std.specs.Fmt.{digits}
use Rattle.lg_accounts.specs.Meaning.Dates.{clock_text, date_of, date_text, day_text, march_day, year_digits}

-- what the rows have to unfold
unfoldable pub by_dating : ⊤
unfolding digits clock_text date_of date_text day_text march_day year_digits
by_dating = tt

beginning : date_text 0 ≡ codes "1970-01-01 00:00:00"
unfolding by_dating
beginning = refl

-- a leap day of a year that 400 divides
leap_day : date_text 951782400000 ≡ codes "2000-02-29 00:00:00"
unfolding by_dating
leap_day = refl

november : date_text 1764213164000 ≡ codes "2025-11-27 03:12:44"
unfolding by_dating
november = refl

last_second : date_text 4102444799000 ≡ codes "2099-12-31 23:59:59"
unfolding by_dating
last_second = refl

-- 2100 is no leap year
no_leap_day : date_text 4107542400000 ≡ codes "2100-03-01 00:00:00"
unfolding by_dating
no_leap_day = refl

five_digits : date_text 253402300800000 ≡ codes "10000-01-01 00:00:00"
unfolding by_dating
five_digits = refl
