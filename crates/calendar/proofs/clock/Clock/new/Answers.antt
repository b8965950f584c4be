-- Summer time begins and ends at 02:00 of the two Sundays.
use Rattle.std.proofs.Common.{ℕ, arith}
use Rattle.calendar.specs.Hours.{summer_start_of, summer_end_of}
use Rattle.calendar.proofs.HourLaws.{year_hours_high, summer_starts_first, summer_ends_in_year}
use Rattle.calendar.proofs.clock.Clock.new.Goals as goal

pub invariant_of-summer : goal.invariant_of-summer
unfolding summer_start_of summer_end_of
invariant_of-summer c =
    let y : ℕ = c.args.year.number in
    let order = summer_starts_first y in
    let last = summer_ends_in_year y in
    record { forward = omega arith; within = omega (arith, year_hours_high y) }

pub invariant_of-result : goal.invariant_of-result
unfolding summer_start_of summer_end_of
invariant_of-result c = record { from = omega arith; to = omega arith }
