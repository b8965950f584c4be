-- The date of a day of the year: weekday, day of the month, month.
use Rattle.std.specs.Prelude.{ℕ, suc, ◌-◌}
use Rattle.calendar.specs.declared.date.Weekday.{Weekday}
use Rattle.calendar.specs.declared.date.Weekday.TheVariants.{Monday, Tuesday, Wednesday, Thursday, Friday, Saturday, Sunday}
use Rattle.calendar.specs.declared.date.Date.{Date}
use Rattle.calendar.specs.Days.{days_to, month_of_day, weekday}

abbrev pub weekday_number : Weekday → ℕ
weekday_number Monday = 0
weekday_number Tuesday = 1
weekday_number Wednesday = 2
weekday_number Thursday = 3
weekday_number Friday = 4
weekday_number Saturday = 5
weekday_number Sunday = 6

-- the days of its month up to day d
unfoldable pub day_of_month : ℕ → ℕ → ℕ
day_of_month y d = suc d - days_to y (month_of_day y d - 1)

abbrev pub date_numbers : Date → ℕ × ℕ × ℕ
date_numbers t = (weekday_number t.weekday, t.day, t.month.number)

abbrev pub date_of : ℕ → ℕ → ℕ × ℕ × ℕ
date_of y d = (weekday y d, day_of_month y d, month_of_day y d)
