-- The weeks of a year, numbered from 0: Monday to Sunday by the clock, the first and the last cut by the year's ends.
use Rattle.std.specs.Prelude.{ℕ, suc, ◌+◌, ◌-◌, ◌*◌, ◌/◌, min}
use Rattle.calendar.specs.Days.{year_days, first_weekday_of}
use Rattle.calendar.specs.Hours.{day_of, midnight}

unfoldable pub week_of : ℕ → ℕ → ℕ
week_of y h = (first_weekday_of y + day_of y h) / 7

-- the days of the year with those before 1 January in its week, in sevens, rounded up
unfoldable pub weeks : ℕ → ℕ
weeks y = (first_weekday_of y + year_days y + 6) / 7

-- the day that week w begins with: a Monday, or 1 January where that Monday is of the year before
abbrev pub monday : ℕ → ℕ → ℕ
monday y w = 7 * w - first_weekday_of y

-- the first hour of week w, and the first after it
unfoldable pub week_first : ℕ → ℕ → ℕ
week_first y w = midnight y (monday y w)

unfoldable pub week_end : ℕ → ℕ → ℕ
week_end y w = midnight y (min (monday y (suc w)) (year_days y))
