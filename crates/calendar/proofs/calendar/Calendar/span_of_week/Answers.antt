-- A week of the year begins before the year's end.
use Rattle.std.proofs.Common.{◌≡◌, ℕ, suc, min, ap, ◌∙◌, arith}
use Rattle.calendar.specs.Days.{year_days}
use Rattle.calendar.specs.Hours.{midnight}
use Rattle.calendar.specs.Weeks.{monday, week_first, week_end}
use Rattle.calendar.proofs.DayLaws.{year_days_high}
use Rattle.calendar.proofs.HourLaws.{year_hours_high}
use Rattle.calendar.proofs.WeekLaws.{monday_high, week_rises, week_end_high}
use Rattle.calendar.proofs.calendar.Calendar.span_of_week.Goals as goal

pub midnight-first-requires : goal.midnight-first-requires
midnight-first-requires c =
    let y : ℕ = c.args.self.now.year.number in
    omega (arith, monday_high y c.args.week c.requires, year_days_high y)

first_is : (y w d r : ℕ) → r ≡ midnight y d → d ≡ monday y w → r ≡ week_first y w
unfolding week_first
first_is y w d r e f = e ∙ ap (midnight y) f

end_is : (y w d r : ℕ) → r ≡ midnight y d → d ≡ min (monday y (suc w)) (year_days y) → r ≡ week_end y w
unfolding week_end
end_is y w d r e f = e ∙ ap (midnight y) f

pub invariant_of-result : goal.invariant_of-result
invariant_of-result c =
    let y : ℕ = c.args.self.now.year.number in
    let w : ℕ = c.args.week in
    let first = first_is y w _ _ c.midnight-first.ensures.midnight c.monday.ensures.monday in
    let end = end_is y w c.min.result _ c.midnight-end.ensures.midnight (omega arith) in
    record { forward = omega (arith, week_rises y w c.requires); within = omega (arith, week_end_high y w, year_hours_high y) }

pub returns : goal.returns
returns c =
    let y : ℕ = c.args.self.now.year.number in
    let w : ℕ = c.args.week in
    record {
      first = first_is y w _ _ c.midnight-first.ensures.midnight c.monday.ensures.monday;
      end = end_is y w c.min.result _ c.midnight-end.ensures.midnight (omega arith);
    }
