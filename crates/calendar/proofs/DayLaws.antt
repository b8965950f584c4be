-- Laws of days: months follow one another through the year, and the last Sundays of March and October lie in them.
use Rattle.std.proofs.Common.{◌≡◌, ℕ, zero, suc, map, sum, sym, subst, ap, ◌∙◌, ◌+◌, ◌-◌, ◌*◌, ◌/◌, ◌<◌, ◌≤◌, refl, add-one, arith}
use Rattle.std.proofs.lemmas.Bool.Decides.{nat_tests}
use Rattle.std.proofs.lemmas.List.FromFn.{sum_by-map-range_with_len_more}
use Rattle.std.specs.List.{range_with_len}
use Rattle.calendar.specs.Days.{leap, leap_day, year_days, month_days, days_to, months_over, month_of_day, days_before, first_weekday_of, weekday, last_sunday}
use Rattle.calendar.proofs.Rising.{rising_mono, passed_at}

pub leap_day_high : (y : ℕ) → leap_day y ≤ 1
leap_day_high y = grind (arith, nat_tests)

pub year_days_low : (y : ℕ) → 365 ≤ year_days y
year_days_low y = omega arith

pub year_days_high : (y : ℕ) → year_days y ≤ 366
year_days_high y = omega (arith, leap_day_high y)

pub month_days_low : (y m : ℕ) → 28 ≤ month_days y m
month_days_low y m = grind (arith, nat_tests)

pub month_days_high : (y m : ℕ) → month_days y m ≤ 31
month_days_high y m = grind (arith, nat_tests)

pub days_to_none : (y : ℕ) → days_to y 0 ≡ 0
unfolding days_to
days_to_none y = refl

pub days_to_more : (y m : ℕ) → days_to y (m + 1) ≡ days_to y m + month_days y (m + 1)
unfolding days_to
days_to_more y m = rw add-one

-- the days are those of the months one by one
pub days_to_sum : (y m : ℕ) → sum (map (λ k. month_days y (k + 1)) (range_with_len 0 m)) ≡ days_to y m
days_to_sum y zero = sym (days_to_none y)
days_to_sum y (suc m) =
    let f : ℕ → ℕ = λ k. month_days y (k + 1) in
    let more : sum (map f (range_with_len 0 (m + 1))) ≡ sum (map f (range_with_len 0 m)) + f m =
    sum_by-map-range_with_len_more (λ n. n) f 0 m m (omega arith) in
    subst (λ (n : ℕ). sum (map f (range_with_len 0 n)) ≡ days_to y n) (add-one m) (more ∙ ap (λ n. n + f m) (days_to_sum y m) ∙ sym (days_to_more y m))

pub days_to_rises : (y m : ℕ) → days_to y m < days_to y (suc m)
unfolding days_to
days_to_rises y m = omega (arith, month_days_low y (suc m))

pub days_to_mono : (y m n : ℕ) → m ≤ n → days_to y m ≤ days_to y n
days_to_mono y = rising_mono (days_to y) (days_to_rises y)

-- months 4 to 10 lie between the ends of March and of October
pub days_to_apart : (y : ℕ) → days_to y 3 + 214 ≡ days_to y 10
unfolding days_to
days_to_apart y = omega arith

-- the months make up the year
pub days_to_year : (y : ℕ) → days_to y 12 ≡ year_days y
unfolding days_to
days_to_year y = omega arith

pub days_to_low : (y m : ℕ) → 1 ≤ m → 28 ≤ days_to y m
unfolding days_to
days_to_low y m le = omega (arith, days_to_mono y 1 m le, month_days_low y 1)

pub days_to_high : (y m : ℕ) → m ≤ 12 → days_to y m ≤ 366
days_to_high y m le = omega (arith, days_to_mono y m 12 le, days_to_year y, year_days_high y)

pub last_sunday_low : (y m : ℕ) → days_to y m ≤ last_sunday y m + 7
unfolding last_sunday
last_sunday_low y m = omega arith

pub last_sunday_high : (y m : ℕ) → last_sunday y (suc m) < days_to y (suc m)
unfolding last_sunday
last_sunday_high y m = omega (arith, days_to_rises y m)

-- the month of a day is the one whose days hold it
pub month_of_day_is : (y d m : ℕ) → m < 12 → days_to y m ≤ d → d < days_to y (suc m) → month_of_day y d ≡ suc m
unfolding month_of_day
month_of_day_is y d m lt from to =
    let e : m + (12 - m) ≡ 12 = omega arith in
    let p : months_over y d (m + (12 - m)) ≡ m = passed_at (days_to y) d m (12 - m) (days_to_rises y) from to in
    omega (arith, rw e at p)

-- the number of leap years up to y grows at the leap years alone
leap_years_more : (y : ℕ) → 1 ≤ y → y / 4 + (y - 1) / 100 + y / 400 ≡ (y - 1) / 4 + y / 100 + (y - 1) / 400 + leap_day y
unfolding leap
leap_years_more y some = grind (arith, nat_tests)

-- one year more has its days more
pub days_before_more : (y : ℕ) → 1 ≤ y → days_before (y + 1) ≡ days_before y + year_days y
unfolding days_before
days_before_more y some =
    let e : y + 1 - 1 ≡ y = omega arith in
    let one : y ≡ (y - 1) + 1 = omega arith in
    let few : (y - 1) / 100 ≤ y - 1 = omega arith in
    let few' : y / 100 ≤ y = omega arith in
    rw e (sums (y - 1) y _ _ _ _ _ _ (leap_day y) one few few' (leap_years_more y some))
  where
    sums : (p n q4 q100 q400 n4 n100 n400 l : ℕ) → n ≡ p + 1 → q100 ≤ p → n100 ≤ n → n4 + q100 + n400 ≡ q4 + n100 + q400 + l → 365 * n + n4 - n100 + n400 ≡ 365 * p + q4 - q100 + q400 + (365 + l)
    sums p n q4 q100 q400 n4 n100 n400 l one few few' more = omega arith

-- a year begins on the weekday after the one on which the year before ends
pub first_weekday_next : (y : ℕ) → 1 ≤ y → first_weekday_of (y + 1) ≡ weekday y (year_days y)
unfolding first_weekday_of weekday
first_weekday_next y some = rw (days_before_more y some) (omega arith)
