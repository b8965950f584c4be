-- The month of a day is that of its midnight.
use Rattle.std.proofs.Common.{◌≡◌, ℕ, ◌+◌, ◌-◌, ◌*◌, ◌/◌, ◌<◌, sym, ap, ◌∙◌, subst, arith}
use Rattle.calendar.specs.Days.{days_to, month_of_day, year_days}
use Rattle.calendar.specs.Hours.{clock, month_end, month_first}
use Rattle.calendar.proofs.DateLaws.{month_of_day_from, month_of_day_near, date_of_is, date_there_and_back}
use Rattle.calendar.proofs.HourLaws.{midnight_in_year, midnight_shows, year_hours_high}
use Rattle.calendar.proofs.day.DayOfYear.date.Goals as goal

-- the days up to a month, from what the clock shows at its first hour
first_is : (y m n h s : ℕ) → m ≡ n → h ≡ month_first y m → s ≡ clock y h → s / 24 ≡ days_to y (n - 1)
unfolding month_end
first_is y m n h s is at shown =
    let all : s ≡ 24 * days_to y (m - 1) = shown ∙ ap (clock y) at ∙ midnight_shows y (days_to y (m - 1)) in
    let day : s / 24 ≡ days_to y (m - 1) = omega arith in
    day ∙ ap (λ (k : ℕ). days_to y (k - 1)) is

pub shows-first-requires : goal.shows-first-requires
unfolding month_end
shows-first-requires c =
    let y : ℕ = c.args.self.calendar.now.year.number in
    let d : ℕ = c.args.self.number in
    let few : days_to y (c.month-month.result.number - 1) < year_days y = subst (λ (k : ℕ). days_to y (k - 1) < year_days y) (sym c.month-month.ensures.month) (omega (arith, month_of_day_from y d c.args.self.within, c.args.self.within)) in
    omega (arith, midnight_in_year y (days_to y (c.month-month.result.number - 1)) few, year_hours_high y, c.month_hours.ensures.first)

pub overflow_sub-result : goal.overflow_sub-result
overflow_sub-result c =
    let y : ℕ = c.args.self.calendar.now.year.number in
    let d : ℕ = c.args.self.number in
    let f = first_is y _ _ _ _ c.month-month.ensures.month c.month_hours.ensures.first (c.shows-first.ensures.shown ∙ ap (λ (k : ℕ). clock k c.month_hours.result.first) c.args.self.calendar.now.same) in
    omega (arith, month_of_day_from y d c.args.self.within)

pub overflow_cast-result : goal.overflow_cast-result
overflow_cast-result c =
    let y : ℕ = c.args.self.calendar.now.year.number in
    let d : ℕ = c.args.self.number in
    let f = first_is y _ _ _ _ c.month-month.ensures.month c.month_hours.ensures.first (c.shows-first.ensures.shown ∙ ap (λ (k : ℕ). clock k c.month_hours.result.first) c.args.self.calendar.now.same) in
    record { fits = omega (arith, month_of_day_near y d c.args.self.within) }

pub returns : goal.returns
returns c =
    let y : ℕ = c.args.self.calendar.now.year.number in
    let d : ℕ = c.args.self.number in
    let m = c.month-month.ensures.month in
    let f = first_is y _ _ _ _ m c.month_hours.ensures.first (c.shows-first.ensures.shown ∙ ap (λ (k : ℕ). clock k c.month_hours.result.first) c.args.self.calendar.now.same) in
    record {
      date = date_of_is y d _ _ _ c.args.self.within m c.weekday.ensures.weekday (ap (λ (k : ℕ). d - k + 1) (f ∙ ap (λ (k : ℕ). days_to y (k - 1)) (sym m)));
      there_and_back = date_there_and_back y d c.args.self.within;
    }
