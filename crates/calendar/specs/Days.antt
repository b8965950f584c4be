-- The days of a year in the Gregorian calendar, numbered from 0 for 1 January: leap years, months, dates and weekdays.
use Rattle.std.specs.Prelude.{ℕ, zero, suc, ◌+◌, ◌-◌, ◌*◌, ◌/◌, ◌%◌, Bool, cond, not, ◌&&◌, ◌||◌, ◌==◌, nat_le}

abbrev pub divides : ℕ → ℕ → Bool
divides d n = n % d == 0

-- every fourth year is a leap year, but of the years that end a century only every fourth
unfoldable pub leap : ℕ → Bool
leap y = divides 4 y && (not (divides 100 y) || divides 400 y)

abbrev pub leap_day : ℕ → ℕ
leap_day y = cond (leap y) 1 0

abbrev pub year_days : ℕ → ℕ
year_days y = 365 + leap_day y

-- months are numbered from 1: February has 28 or 29 days, April, June, September and November have 30, the others 31
abbrev pub month_days : ℕ → ℕ → ℕ
month_days y m =
    cond (m == 2) (28 + leap_day y)
    (cond (m == 4 || m == 6 || m == 9 || m == 11) 30 31)

-- the days of the year up to the end of month m
unfoldable pub days_to : ℕ → ℕ → ℕ
days_to y zero = 0
days_to y (suc m) = days_to y m + month_days y (suc m)

-- day n of month m, as a day of the year
abbrev pub date : ℕ → ℕ → ℕ → ℕ
date y m n = days_to y (m - 1) + (n - 1)

-- how many of the months 1 to m are over when day d begins
abbrev pub months_over : ℕ → ℕ → ℕ → ℕ
months_over y d zero = 0
months_over y d (suc m) = months_over y d m + cond (nat_le (days_to y (suc m)) d) 1 0

unfoldable pub month_of_day : ℕ → ℕ → ℕ
month_of_day y d = 1 + months_over y d 12

-- the days before year y since the year 1 began: 365 a year, and one for each leap year
unfoldable pub days_before : ℕ → ℕ
days_before y = 365 * (y - 1) + (y - 1) / 4 - (y - 1) / 100 + (y - 1) / 400

-- weekdays are numbered from 0 for Monday to 6 for Sunday; in this calendar the year 1 begins with a Monday
unfoldable pub first_weekday_of : ℕ → ℕ
first_weekday_of y = days_before y % 7

unfoldable pub weekday : ℕ → ℕ → ℕ
weekday y d = (first_weekday_of y + d) % 7

-- the last day of month m, and the last Sunday up to it
abbrev pub last_day : ℕ → ℕ → ℕ
last_day y m = days_to y m - 1

unfoldable pub last_sunday : ℕ → ℕ → ℕ
last_sunday y m = last_day y m - (weekday y (last_day y m) + 1) % 7
