-- Worked cases: what the definitions must give for years, months and hours that were worked out by hand.
use Rattle.std.specs.Prelude.{ℕ, ◌+◌, ◌-◌, ◌*◌, Bool, true, not, ◌&&◌, List, [], ◌∷◌, ◌==◌, ℤ, pos, neg_ℤ, ◌*ℤ◌, int_le}
use Rattle.calendar.specs.Days.{date, weekday}
use Rattle.calendar.specs.Easter.{easter}
use Rattle.calendar.specs.Hours.{year_hours, month_first, month_end}
use Rattle.calendar.specs.PeakLoad.{peak_load, peak_load_hours}
use Rattle.calendar.specs.Weeks.{weeks}
use Rattle.book.specs.declared.point.Area.TheVariants.{Southern}
use Rattle.bills.specs.declared.standing.Extras.{Extras}
use Rattle.normal_sheet.specs.declared.sheet.Row.{Row}
use Rattle.normal_sheet.specs.Levels.{level_of}
use Rattle.normal_sheet.specs.Lines.{line_7, line_8}
use Rattle.normal_sheet.specs.Published.{sheet_2022}

pub data Case : Type 0 where
  -- a year has so many peak-load hours
  peak_load_hours_of : (year count : ℕ) → Case
  -- an hour of a year is a peak-load hour, or is none
  a_peak_load_hour : (year hour : ℕ) → Case
  no_peak_load_hour : (year hour : ℕ) → Case
  -- a month has the hours from one to another, both included
  month_runs : (year month first last : ℕ) → Case
  -- a month has so many hours
  month_has : (year month count : ℕ) → Case
  -- a date falls on a weekday, 0 for Monday
  falls_on : (year month day weekday : ℕ) → Case
  -- a year has so many weeks
  weeks_of : (year count : ℕ) → Case
  -- Easter Sunday is so many days after 22 March
  easter_of : (year days : ℕ) → Case
  -- so many kWh at a price cost so much, all in hundredths of an öre
  energy_costs : (kwh : ℕ) (price amount : ℤ) → Case
  -- line 7: so much for two month peaks at a kW, with the active excess rate in SEK for each kW; the amount is in SEK
  line_7_is : (first second kw rate amount : ℕ) → Case
  -- line 8 of the choice on the Southern sheet of 2022: so much in SEK for a reactive use, at a kW and an extra withdrawal
  line_8_is : (choice used kw extra amount : ℕ) → Case

-- a level that has nothing but an active excess rate, in SEK for each kW
abbrev pub excess_alone : ℕ → Row
excess_alone rate = record {
  offered = true;
  standing = record { fixed_fee = 0; power_rate = 0; extra_rate = 0 };
  peak_load_price = pos 0;
  other_price = pos 0;
  active_excess_rate = 100 * rate;
  reactive_excess_rate = 0;
  free_withdrawal = 0;
  free_input = 0;
}

abbrev pub extra_withdrawal_of : ℕ → Extras
extra_withdrawal_of kvar = record { withdrawal = kvar; input = 0 }

abbrev pub holds : Case → Bool
holds (peak_load_hours_of y n) = peak_load_hours y 0 (year_hours y) == n
holds (a_peak_load_hour y h) = peak_load y h
holds (no_peak_load_hour y h) = not (peak_load y h)
holds (month_runs y m first last) = month_first y m == first && month_end y m == last + 1
holds (month_has y m n) = month_end y m - month_first y m == n
holds (falls_on y m d w) = weekday y (date y m d) == w
holds (weeks_of y n) = weeks y == n
holds (easter_of y n) = easter y == n
holds (energy_costs kwh price amount) = int_le (pos kwh *ℤ price) amount && int_le amount (pos kwh *ℤ price)
holds (line_7_is first second s rate sek) = line_7 (excess_alone rate) (first + second) s == 10000 * sek
holds (line_8_is c used s extra sek) = line_8 (level_of (sheet_2022 Southern) c) (extra_withdrawal_of extra) used s == 10000 * sek

unfoldable pub cases : List Case
cases =
    peak_load_hours_of 2022 1696
    ∷ peak_load_hours_of 2024 1616
    ∷ a_peak_load_hour 2022 54
    ∷ a_peak_load_hour 2022 69
    ∷ a_peak_load_hour 2022 2069
    ∷ no_peak_load_hour 2022 53
    ∷ no_peak_load_hour 2022 70
    ∷ no_peak_load_hour 2022 2068
    ∷ month_runs 2022 3 1416 2158
    ∷ month_has 2022 3 743
    ∷ month_has 2022 10 745
    ∷ falls_on 2000 1 1 5
    ∷ weeks_of 2012 54
    ∷ easter_of 2285 0
    ∷ easter_of 2024 9
    ∷ easter_of 2038 34
    ∷ energy_costs 10 (neg_ℤ (pos 170)) (neg_ℤ (pos 1700))
    ∷ line_7_is 1001 1000 1000 500 250
    ∷ line_7_is 1000 1000 1000 500 0
    ∷ line_8_is 0 600 1000 0 6000
    ∷ line_8_is 0 600 1000 150 0
    ∷ []

abbrev pub every : List Case → Bool
every [] = true
every (c ∷ cs) = holds c && every cs
