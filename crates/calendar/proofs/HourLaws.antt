-- Laws of hours: the clock goes through the days in order, and a day is the hours from its midnight to the next.
use Rattle.std.proofs.Common.{◌≡◌, ℕ, suc, ◌*◌, ◌<◌, ◌≤◌, arith}
use Rattle.std.proofs.lemmas.Bool.Decides.{nat_tests}
use Rattle.calendar.specs.Days.{year_days, last_sunday}
use Rattle.calendar.specs.Hours.{year_hours, summer_start_of, summer_end_of, clock, day_of, time_of, midnight}
use Rattle.calendar.proofs.DayLaws.{year_days_high, days_to_mono, days_to_year, last_sunday_low, last_sunday_high, days_to_apart}

pub year_hours_high : (y : ℕ) → year_hours y ≤ 8784
unfolding year_hours
year_hours_high y = omega (arith, year_days_high y)

-- the last Sunday of March comes before that of October, and both are days of the year
pub spring_before_autumn : (y : ℕ) → last_sunday y 3 < last_sunday y 10
spring_before_autumn y = omega (arith, last_sunday_high y 2, last_sunday_low y 10, days_to_apart y)

pub autumn_in_year : (y : ℕ) → last_sunday y 10 < year_days y
autumn_in_year y = omega (arith, last_sunday_high y 9, days_to_mono y 10 12 (omega arith), days_to_year y)

-- summer time is in the year
pub summer_starts_first : (y : ℕ) → summer_start_of y < summer_end_of y
unfolding summer_start_of summer_end_of
summer_starts_first y = omega (arith, spring_before_autumn y)

pub summer_ends_in_year : (y : ℕ) → summer_end_of y < year_hours y
unfolding summer_end_of year_hours
summer_ends_in_year y = omega (arith, autumn_in_year y)

-- at its midnight the clock shows 00:00 of the day
pub midnight_shows : (y d : ℕ) → clock y (midnight y d) ≡ 24 * d
unfolding clock midnight summer_start_of summer_end_of
midnight_shows y d = grind (arith, nat_tests, spring_before_autumn y)

pub midnight_first : (y : ℕ) → midnight y 0 ≡ 0
unfolding midnight
midnight_first y = grind (arith, nat_tests)

pub midnight_year : (y : ℕ) → midnight y (year_days y) ≡ year_hours y
unfolding midnight year_hours summer_start_of summer_end_of
midnight_year y = grind (arith, nat_tests, autumn_in_year y)

pub midnight_rises : (y d : ℕ) → midnight y d < midnight y (suc d)
unfolding midnight summer_start_of summer_end_of
midnight_rises y d = grind (arith, nat_tests)

pub midnight_mono : (y c d : ℕ) → c ≤ d → midnight y c ≤ midnight y d
unfolding midnight summer_start_of summer_end_of
midnight_mono y c d le = grind (arith, nat_tests)

pub midnight_in_year : (y d : ℕ) → d < year_days y → midnight y d < year_hours y
midnight_in_year y d lt = omega (arith, midnight_rises y d, midnight_mono y (suc d) (year_days y) lt, midnight_year y)

pub day_of_midnight : (y d : ℕ) → day_of y (midnight y d) ≡ d
unfolding day_of
day_of_midnight y d = omega (arith, midnight_shows y d)

-- the day of an hour is the one whose midnights it lies between
pub day_of_is : (y d h : ℕ) → midnight y d ≤ h → h < midnight y (suc d) → day_of y h ≡ d
unfolding midnight day_of clock summer_start_of summer_end_of
day_of_is y d h from to = grind (arith, nat_tests, spring_before_autumn y)

pub day_of_from : (y h : ℕ) → midnight y (day_of y h) ≤ h
unfolding midnight day_of clock summer_start_of summer_end_of
day_of_from y h = grind (arith, nat_tests, spring_before_autumn y)

pub day_of_to : (y h : ℕ) → h < midnight y (suc (day_of y h))
unfolding midnight day_of clock summer_start_of summer_end_of
day_of_to y h = grind (arith, nat_tests, spring_before_autumn y)

-- the days of the year's hours are the year's days
pub day_of_year : (y h : ℕ) → h < year_hours y → day_of y h < year_days y
unfolding day_of clock year_hours summer_start_of summer_end_of
day_of_year y h lt = grind (arith, nat_tests, spring_before_autumn y, autumn_in_year y)

pub time_of_below : (y h : ℕ) → time_of y h < 24
unfolding time_of
time_of_below y h = omega arith
