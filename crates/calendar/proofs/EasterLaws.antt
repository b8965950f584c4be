-- Laws of Easter: it is at most 34 days after 22 March, and in every year that the calendar serves a Sunday.
use Rattle.std.proofs.Common.{◌≡◌, ℕ, zero, suc, ◌+◌, ◌-◌, ◌%◌, ◌<◌, ◌≤◌, Bool, true, ◌&&◌, eqb, refl, arith}
use Rattle.std.proofs.lemmas.Nat.{mod_below}
use Rattle.std.proofs.lemmas.Bool.Decides.{Decides-below_and, Decides-eqb}
use Rattle.calendar.specs.Days.{leap, days_to, days_before, first_weekday_of, weekday}
use Rattle.calendar.specs.Easter.{not_too_late, easter}
use Rattle.calendar.specs.PeakLoad.{easter_sunday_of}
use Rattle.calendar.proofs.DayLaws.{leap_day_high}

-- the latest: a moon on its last day, 29, and six days to the Sunday are too late
not_late : (golden moon sunday : ℕ) → moon < 30 → sunday < 7 → not_too_late golden moon sunday ≤ 34
not_late golden moon sunday m s = omega arith

pub easter_high : (y : ℕ) → easter y ≤ 34
unfolding easter
easter_high y = not_late (y % 19) _ _ (mod_below _ 30 (omega arith)) (mod_below _ 7 (omega arith))

-- at each of the n years from 2002 on Easter is a Sunday, which the checker computes
abbrev sundays : ℕ → Bool
sundays zero = true
sundays (suc n) = eqb (weekday (2002 + n) (easter_sunday_of (2002 + n))) 6 && sundays n

computed : sundays 298 ≡ true
unfolding leap days_to days_before first_weekday_of weekday easter easter_sunday_of
computed = refl

pub easter_on_sunday : (y : ℕ) → 2002 ≤ y → y ≤ 2299 → weekday y (easter_sunday_of y) ≡ 6
easter_on_sunday y low high =
    let e : 2002 + (y - 2002) ≡ y = omega arith in
    rw e at ((Decides-below_and (λ n. eqb (weekday (2002 + n) (easter_sunday_of (2002 + n))) 6) (λ n. weekday (2002 + n) (easter_sunday_of (2002 + n)) ≡ 6) sundays (λ n. Decides-eqb _ _) refl (λ _. refl) 298).0 computed (y - 2002) (omega arith))

pub easter_sunday_low : (y : ℕ) → 80 ≤ easter_sunday_of y
unfolding easter_sunday_of days_to
easter_sunday_low y = omega arith

pub easter_sunday_high : (y : ℕ) → easter_sunday_of y ≤ 115
unfolding easter_sunday_of days_to
easter_sunday_high y = omega (arith, easter_high y, leap_day_high y)
