-- Laws of dates: the date of a day is that day.
use Rattle.std.proofs.Common.{◌≡◌, ℕ, suc, ◌+◌, ◌-◌, ◌<◌, ◌≤◌, arith}
use Rattle.calendar.specs.Dates.{day_of_month, date_of}
use Rattle.calendar.specs.Days.{year_days, month_days, days_to, date, weekday, month_of_day}
use Rattle.calendar.proofs.Rising.{between}
use Rattle.calendar.proofs.DayLaws.{month_days_high, days_to_none, days_to_more, days_to_year, month_of_day_is}

-- the month, counted from 0, that holds a day of the year
holding : (y d : ℕ) → d < year_days y → (m : ℕ) × (m < 12) × (days_to y m ≤ d) × (d < days_to y (suc m))
holding y d lt = between (days_to y) d 12 (omega (arith, days_to_none y)) (omega (arith, days_to_year y))

pub month_of_day_low : (y d : ℕ) → 1 ≤ month_of_day y d
unfolding month_of_day
month_of_day_low y d = omega arith

pub month_of_day_from : (y d : ℕ) → d < year_days y → days_to y (month_of_day y d - 1) ≤ d
month_of_day_from y d lt =
    let p = holding y d lt in
    let e : month_of_day y d - 1 ≡ p.0 = omega (arith, month_of_day_is y d p.0 p.1 p.2 p.3) in
    rw e p.2

pub month_of_day_to : (y d : ℕ) → d < year_days y → d < days_to y (month_of_day y d)
month_of_day_to y d lt =
    let p = holding y d lt in
    rw (month_of_day_is y d p.0 p.1 p.2 p.3) p.3

-- a month has at most 31 days
pub month_of_day_near : (y d : ℕ) → d < year_days y → d < days_to y (month_of_day y d - 1) + 31
month_of_day_near y d lt =
    let m : ℕ = month_of_day y d - 1 in
    let e : m + 1 ≡ month_of_day y d = omega (arith, month_of_day_low y d) in
    let more : days_to y (month_of_day y d) ≡ days_to y m + month_days y (month_of_day y d) = rw e at (days_to_more y m) in
    omega (arith, month_of_day_to y d lt, month_days_high y (month_of_day y d))

pub date_there_and_back : (y d : ℕ) → d < year_days y → date y (month_of_day y d) (day_of_month y d) ≡ d
unfolding day_of_month
date_there_and_back y d lt = omega (arith, month_of_day_from y d lt)

-- the numbers of a date, from its month and the days before it
pub date_of_is : (y d m w n : ℕ) → d < year_days y → m ≡ month_of_day y d → w ≡ weekday y d → n ≡ d - days_to y (m - 1) + 1 → ◌≡◌ {A = ℕ × ℕ × ℕ} (w, n, m) (date_of y d)
unfolding day_of_month
date_of_is y d m w n lt is e f =
    let from : days_to y (m - 1) ≤ d = rw is (month_of_day_from y d lt) in
    let g : n ≡ suc d - days_to y (m - 1) = omega arith in
    rw (e, g, is)
