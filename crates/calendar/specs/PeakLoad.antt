-- Peak-load hours: by the clock from 06:00 to 21:00, Monday to Friday, in the winter months, but on the days off.
use Rattle.std.specs.Prelude.{ℕ, zero, suc, ◌+◌, ◌-◌, Bool, false, cond, not, ◌&&◌, ◌||◌, List, [], ◌∷◌, ◌==◌, nat_le, nat_lt}
use Rattle.calendar.specs.Days.{date, weekday}
use Rattle.calendar.specs.Easter.{easter}
use Rattle.calendar.specs.Hours.{year_hours, day_of, time_of, month_of}

-- an hour that begins at 06:00, at 21:00 or between
abbrev pub daytime : ℕ → Bool
daytime t = nat_le 6 t && nat_le t 21

-- January, February, March, November and December
abbrev pub winter : ℕ → Bool
winter m = nat_le m 3 || nat_le 11 m

-- Monday to Friday
abbrev pub working : ℕ → Bool
working w = nat_lt w 5

unfoldable pub easter_sunday_of : ℕ → ℕ
easter_sunday_of y = date y 3 22 + easter y

-- New Year's Day, Epiphany, Maundy Thursday, Good Friday, Easter Monday, and 24, 25, 26 and 31 December
unfoldable pub days_off_of : ℕ → List ℕ
days_off_of y =
    date y 1 1 ∷ date y 1 6
    ∷ (easter_sunday_of y - 3) ∷ (easter_sunday_of y - 2) ∷ (easter_sunday_of y + 1)
    ∷ date y 12 24 ∷ date y 12 25 ∷ date y 12 26 ∷ date y 12 31 ∷ []

abbrev pub among : ℕ → List ℕ → Bool
among d [] = false
among d (x ∷ xs) = x == d || among d xs

-- a day that counts: Monday to Friday, and no day off
unfoldable pub counts : ℕ → ℕ → Bool
counts y d = working (weekday y d) && not (among d (days_off_of y))

-- whether hour h is an hour of the year and a peak-load hour
unfoldable pub peak_load : ℕ → ℕ → Bool
peak_load y h = nat_lt h (year_hours y) && daytime (time_of y h) && winter (month_of y h) && counts y (day_of y h)

-- how many of the n hours from hour h on are peak-load hours
unfoldable pub peak_load_hours : ℕ → ℕ → ℕ → ℕ
peak_load_hours y h zero = 0
peak_load_hours y h (suc n) = peak_load_hours y h n + cond (peak_load y (h + n)) 1 0
