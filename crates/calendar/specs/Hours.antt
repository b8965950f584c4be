-- The hours of a year, numbered from 0 in standard time, what the clock shows at each, and the months that they make.
use Rattle.std.specs.Prelude.{ℕ, ◌+◌, ◌-◌, ◌*◌, ◌/◌, ◌%◌, Bool, cond, ◌&&◌, nat_le, nat_lt}
use Rattle.calendar.specs.Days.{year_days, days_to, month_of_day, last_sunday}

unfoldable pub year_hours : ℕ → ℕ
year_hours y = 24 * year_days y

-- summer time lasts from 02:00 standard time on the last Sunday of March until 02:00 standard time on that of October
unfoldable pub summer_start_of : ℕ → ℕ
summer_start_of y = 24 * last_sunday y 3 + 2

unfoldable pub summer_end_of : ℕ → ℕ
summer_end_of y = 24 * last_sunday y 10 + 2

abbrev pub summer_time : ℕ → ℕ → Bool
summer_time y h = nat_le (summer_start_of y) h && nat_lt h (summer_end_of y)

-- what the clock shows as hour h begins, in hours since 1 January, 00:00
unfoldable pub clock : ℕ → ℕ → ℕ
clock y h = cond (summer_time y h) (h + 1) h

unfoldable pub day_of : ℕ → ℕ → ℕ
day_of y h = clock y h / 24

unfoldable pub time_of : ℕ → ℕ → ℕ
time_of y h = clock y h % 24

unfoldable pub month_of : ℕ → ℕ → ℕ
month_of y h = month_of_day y (day_of y h)

-- the hour at which the clock shows 00:00 of day d
unfoldable pub midnight : ℕ → ℕ → ℕ
midnight y d = cond (summer_time y (24 * d)) (24 * d - 1) (24 * d)

-- the first hour after month m; up to month 0 the year has no hours
unfoldable pub month_end : ℕ → ℕ → ℕ
month_end y m = midnight y (days_to y m)

-- the first hour of month m
abbrev pub month_first : ℕ → ℕ → ℕ
month_first y m = month_end y (m - 1)
