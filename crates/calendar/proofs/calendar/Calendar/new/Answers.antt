-- The fields are what the leaves answer; the laws hold of every year.
use Rattle.std.proofs.Common.{refl, arith}
use Rattle.calendar.proofs.DayLaws.{first_weekday_next}
use Rattle.calendar.proofs.MonthLaws.{months_cover}
use Rattle.calendar.proofs.WeekLaws.{weeks_cover}
use Rattle.calendar.proofs.calendar.Calendar.new.Goals as goal

pub returns : goal.returns
returns c =
    record {
      of_year = refl;
      next_year_goes_on = first_weekday_next c.args.year.number (omega arith);
      months_cover_the_year = months_cover c.args.year.number;
      weeks_cover_the_year = weeks_cover c.args.year.number;
    }
