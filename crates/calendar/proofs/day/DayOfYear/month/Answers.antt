-- The month of a day is that of its midnight.
use Rattle.std.proofs.Common.{◌≡◌, ℕ, ap, ◌∙◌}
use Rattle.calendar.specs.declared.calendar.Calendar.{Calendar}
use Rattle.calendar.specs.Days.{month_of_day}
use Rattle.calendar.specs.Hours.{day_of, month_of, midnight}
use Rattle.calendar.proofs.HourLaws.{day_of_midnight}
use Rattle.calendar.proofs.day.DayOfYear.month.Goals as goal

month_is : (y z d h m : ℕ) → z ≡ y → h ≡ midnight y d → m ≡ month_of z h → m ≡ month_of_day y d
unfolding month_of
month_is y z d h m same at is =
    is ∙ ap (λ (x : ℕ). month_of_day x (day_of x h)) same ∙ ap (month_of_day y) (ap (day_of y) at ∙ day_of_midnight y d)

pub returns : goal.returns
returns c =
    let same = ap (λ (k : Calendar). k.year.number) c.first_hour.ensures.calendar in
    record { month = month_is c.args.self.calendar.now.year.number _ c.args.self.number _ _ same c.first_hour.ensures.midnight c.month.ensures.month }
