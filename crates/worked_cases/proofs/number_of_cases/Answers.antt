-- Every row is computed from the definitions and compared with what was worked out.
use Rattle.std.proofs.Common.{refl}
use Rattle.calendar.specs.Days.{leap, days_to, month_of_day, days_before, first_weekday_of, weekday, last_sunday}
use Rattle.calendar.specs.Easter.{easter}
use Rattle.calendar.specs.Hours.{year_hours, summer_start_of, summer_end_of, clock, day_of, time_of, month_of, midnight, month_end}
use Rattle.calendar.specs.PeakLoad.{easter_sunday_of, days_off_of, counts, peak_load, peak_load_hours}
use Rattle.calendar.specs.Weeks.{weeks}
use Rattle.normal_sheet.specs.Levels.{level_of}
use Rattle.worked_cases.specs.Cases.{cases}
use Rattle.worked_cases.proofs.number_of_cases.Goals as goal

pub returns : goal.returns
unfolding cases level_of leap days_to month_of_day days_before first_weekday_of weekday last_sunday easter year_hours summer_start_of summer_end_of clock day_of time_of month_of midnight month_end easter_sunday_of days_off_of counts peak_load peak_load_hours weeks
returns c = record { number = refl; every_case_holds = refl }
