-- What months and weeks are to a year, in the calendar's own words.
use Rattle.std.specs.Prelude.{◌≡◌, ℕ, suc, ◌-◌, ◌<◌, ◌≤◌, ◌≢◌}
use Rattle.calendar.specs.Days.{weekday}
use Rattle.calendar.specs.Hours.{year_hours, summer_start_of, summer_end_of, day_of, time_of, month_of, month_first, month_end}
use Rattle.calendar.specs.Weeks.{week_of, weeks, week_first, week_end}

-- the months are consecutive parts that cover the year's hours exactly
pub record MonthsCover (y : ℕ) : Type 0 where
  pub starts : month_first y 1 ≡ 0
  pub follows : (m : ℕ) → 1 ≤ m → m < 12 → month_first y (suc m) ≡ month_end y m
  pub ends : month_end y 12 ≡ year_hours y
  pub rises : (m : ℕ) → 1 ≤ m → m ≤ 12 → month_first y m < month_end y m
  -- the month of an hour is the one month that holds it
  pub low : (h : ℕ) → h < year_hours y → 1 ≤ month_of y h
  pub high : (h : ℕ) → h < year_hours y → month_of y h ≤ 12
  pub from : (h : ℕ) → h < year_hours y → month_first y (month_of y h) ≤ h
  pub to : (h : ℕ) → h < year_hours y → h < month_end y (month_of y h)
  pub only : (h m : ℕ) → 1 ≤ m → m ≤ 12 → month_first y m ≤ h → h < month_end y m → month_of y h ≡ m

abbrev pub week_length : ℕ → ℕ → ℕ
week_length y w = week_end y w - week_first y w

-- the weeks in which summer time begins and ends
abbrev pub spring_week : ℕ → ℕ
spring_week y = week_of y (summer_start_of y)

abbrev pub autumn_week : ℕ → ℕ
autumn_week y = week_of y (summer_end_of y)

-- the weeks are consecutive parts that cover the year's hours exactly; each begins at 00:00, and each but the first on a
-- Monday; all have 168 hours but the first, the last, the week in which summer time begins (167) and the one in which it
-- ends (169)
pub record WeeksCover (y : ℕ) : Type 0 where
  pub starts : week_first y 0 ≡ 0
  pub follows : (w : ℕ) → suc w < weeks y → week_first y (suc w) ≡ week_end y w
  pub ends : week_end y (weeks y - 1) ≡ year_hours y
  pub rises : (w : ℕ) → w < weeks y → week_first y w < week_end y w
  -- the week of an hour is the one week that holds it
  pub high : (h : ℕ) → h < year_hours y → week_of y h < weeks y
  pub from : (h : ℕ) → h < year_hours y → week_first y (week_of y h) ≤ h
  pub to : (h : ℕ) → h < year_hours y → h < week_end y (week_of y h)
  pub only : (h w : ℕ) → w < weeks y → week_first y w ≤ h → h < week_end y w → week_of y h ≡ w
  pub monday : (w : ℕ) → 0 < w → w < weeks y → weekday y (day_of y (week_first y w)) ≡ 0
  pub midnight : (w : ℕ) → w < weeks y → time_of y (week_first y w) ≡ 0
  pub whole : (w : ℕ) → 0 < w → suc w < weeks y → (w ≢ spring_week y) → (w ≢ autumn_week y) → week_length y w ≡ 168
  pub spring : week_length y (spring_week y) ≡ 167
  pub autumn : week_length y (autumn_week y) ≡ 169
