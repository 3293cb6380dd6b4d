-- Wall times as dates and times of the day, in UTC. A wall time is in milliseconds since the beginning of 1970. The
-- calendar is the Gregorian one: 400 years have 146,097 days, 100 of them 36,524, 4 of these 1,461, and a year 365;
-- and where a leap day comes more, it is the last day of the 400, of the 4 or of the year, since years begin in March
-- here.
use Rattle.std.specs.Prelude.{ℕ, ◌+◌, ◌-◌, ◌*◌, ◌/◌, ◌%◌, min, nat_lt, List, ◌++◌, codes, decimal, if◌then◌else◌}
use Rattle.lg_accounts.specs.declared.dates.Date.{Date}
use Rattle.lg_accounts.specs.declared.dates.MarchDay.{MarchDay}

-- how many days before a wall time began, since the first of March of the year 0: 719,468 of them are before 1970
abbrev pub days_until : ℕ → ℕ
days_until wall = wall / 86400000 + 719468

-- of the 400 years that some days go into, how many centuries have passed, and which day of the next it is, from 0: the
-- fourth century has the day that is left
abbrev pub passed_centuries : ℕ → ℕ
passed_centuries days = min 3 (days % 146097 / 36524)

abbrev pub day_of_century : ℕ → ℕ
day_of_century days = days % 146097 - 36524 * passed_centuries days

-- of the four years that a day of a century lies in, how many have passed: the fourth has the day that is left
abbrev pub passed_years : ℕ → ℕ
passed_years day = min 3 (day % 1461 / 365)

-- the year behind which some days are, since the first of March of the year 0, and which day of it comes next, from 0
abbrev pub march_year : ℕ → ℕ
march_year days =
    400 * (days / 146097) + 100 * passed_centuries days + 4 * (day_of_century days / 1461)
    + passed_years (day_of_century days)

abbrev pub day_of_march_year : ℕ → ℕ
day_of_march_year days = day_of_century days % 1461 - 365 * passed_years (day_of_century days)

unfoldable pub march_day : ℕ → MarchDay
march_day days = record { year = march_year days; day = day_of_march_year days }

-- How many months have passed before a day of such a year, and how many days before a month. From March on the months
-- have 31, 30, 31, 30 and 31 days, 153 together, and then the same again.
abbrev pub passed_months : ℕ → ℕ
passed_months day = (5 * day + 2) / 153

abbrev pub days_before_month : ℕ → ℕ
days_before_month month = (153 * month + 2) / 5

-- the same day in the calendar, where January and February belong to the next year
abbrev pub year_by : ℕ → ℕ → ℕ
year_by year month = if nat_lt month 10 then year else year + 1

abbrev pub month_by : ℕ → ℕ
month_by month = if nat_lt month 10 then month + 3 else month - 9

unfoldable pub date_of : MarchDay → Date
date_of it =
    record {
      year = year_by it.year (passed_months it.day);
      month = month_by (passed_months it.day);
      day = it.day - days_before_month (passed_months it.day) + 1;
    }

-- a number below 100 with two digits, and a year with four, or more if it needs them
abbrev pub two_digits : ℕ → List ℕ
two_digits n = decimal (n / 10) ++ decimal (n % 10)

unfoldable pub year_digits : ℕ → List ℕ
year_digits year = decimal (year / 1000) ++ (decimal (year / 100 % 10) ++ two_digits (year % 100))

-- YYYY-MM-DD
unfoldable pub day_text : Date → List ℕ
day_text date =
    year_digits date.year ++ codes "-" ++ two_digits date.month ++ codes "-" ++ two_digits date.day

-- HH:MM:SS, of seconds of a day
unfoldable pub clock_text : ℕ → List ℕ
clock_text second =
    two_digits (second / 3600) ++ codes ":" ++ two_digits (second / 60 % 60) ++ codes ":" ++ two_digits (second % 60)

-- YYYY-MM-DD HH:MM:SS
unfoldable pub date_text : ℕ → List ℕ
date_text wall = day_text (date_of (march_day (days_until wall))) ++ codes " " ++ clock_text (wall / 1000 % 86400)
