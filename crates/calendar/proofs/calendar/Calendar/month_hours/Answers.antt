-- A month ends after the one before, and in the year.
use Rattle.std.proofs.Common.{ℕ, ◌-◌, arith}
use Rattle.calendar.proofs.HourLaws.{year_hours_high}
use Rattle.calendar.proofs.MonthLaws.{month_end_mono, month_end_high}
use Rattle.calendar.proofs.calendar.Calendar.month_hours.Goals as goal

pub invariant_of-result : goal.invariant_of-result
invariant_of-result c =
    let k = c.args.self.now in
    let y : ℕ = k.year.number in
    let m : ℕ = c.args.month.number in
    let first = k.ends (m - 1) (omega arith) in
    let end = k.ends m (omega arith) in
    record { forward = omega (arith, month_end_mono y (m - 1) m (omega arith)); within = omega (arith, month_end_high y m, year_hours_high y) }
