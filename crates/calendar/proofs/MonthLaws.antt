-- Laws of months: consecutive parts that cover the year's hours exactly.
use Rattle.std.proofs.Common.{◌≡◌, ℕ, zero, suc, ◌-◌, ◌<◌, ◌≤◌, true, false, ◌||◌, ltb, leb, List, length, get_or, sym, ap, ◌∙◌, inl, inr, arith}
use Rattle.std.proofs.lemmas.Bool.{cases_lt, leb-true, leb-false}
use Rattle.std.proofs.lemmas.Bool.Decides.{nat_tests}
use Rattle.std.specs.List.Sorted.{IsNonDecreasingBy, IsPartitionedBy, IsPartitionPoint}
use Rattle.std.proofs.lemmas.List.Sorted.{IsPartitionedBy-leb, IsNonDecreasingBy-from_default}
use Rattle.calendar.specs.Days.{days_to, month_of_day}
use Rattle.calendar.specs.Hours.{year_hours, day_of, month_of, midnight, month_first, month_end}
use Rattle.calendar.specs.PeakLoad.{winter}
use Rattle.calendar.specs.Laws.{MonthsCover}
use Rattle.calendar.proofs.DayLaws.{days_to_rises, days_to_mono, days_to_year, month_of_day_is}
use Rattle.calendar.proofs.Rising.{between}
use Rattle.calendar.proofs.HourLaws.{midnight_first, midnight_year, midnight_rises, midnight_mono, day_of_from, day_of_to}

-- a month begins where the one before ends
pub month_first_end : (y m : ℕ) → month_first y (suc m) ≡ month_end y m
month_first_end y m = let e : suc m - 1 ≡ m = omega arith in rw e

pub month_end_none : (y : ℕ) → month_end y 0 ≡ 0
unfolding month_end days_to
month_end_none y = midnight_first y

pub month_end_mono : (y m n : ℕ) → m ≤ n → month_end y m ≤ month_end y n
unfolding month_end
month_end_mono y m n le = midnight_mono y (days_to y m) (days_to y n) (days_to_mono y m n le)

pub month_end_rises : (y m : ℕ) → month_end y m < month_end y (suc m)
unfolding month_end
month_end_rises y m =
    omega (arith, midnight_rises y (days_to y m), midnight_mono y (suc (days_to y m)) (days_to y (suc m)) (days_to_rises y m))

pub month_end_year : (y : ℕ) → month_end y 12 ≡ year_hours y
unfolding month_end
month_end_year y = ap (midnight y) (days_to_year y) ∙ midnight_year y

pub month_end_high : (y m : ℕ) → m ≤ 12 → month_end y m ≤ year_hours y
month_end_high y m le = omega (arith, month_end_mono y m 12 le, month_end_year y)

-- an hour between two ends is of the month between them
pub month_of_is : (y m h : ℕ) → m < 12 → month_end y m ≤ h → h < month_end y (suc m) → month_of y h ≡ suc m
unfolding month_of month_end
month_of_is y m h lt from to =
    month_of_day_is y (day_of y h) m lt
    (elim (cases_lt (day_of y h) (days_to y m)) [
      | inl l ↦ absurd (omega (arith, day_of_to y h, midnight_mono y (suc (day_of y h)) (days_to y m) l))
      | inr r ↦ r
    ])
    (elim (cases_lt (day_of y h) (days_to y (suc m))) [
      | inl l ↦ l
      | inr r ↦ absurd (omega (arith, day_of_from y h, midnight_mono y (days_to y (suc m)) (day_of y h) r))
    ])

-- where the ends of the months up to 12, in a row, pass an hour is its month
pub record FoundMonth (y h i : ℕ) : Type 0 where
  pub low : 1 ≤ i
  pub high : i ≤ 12
  pub is : i ≡ month_of y h

pub month_found : (y h i : ℕ) (ends : List ℕ) → length ends ≡ 13 → ((m : ℕ) → m ≤ 12 → get_or ends m 0 ≡ month_end y m) → h < year_hours y → i ≤ 13 → (IsPartitionedBy (λ e. leb e h) ends → IsPartitionPoint (λ e. leb e h ≡ true) (λ e. leb e h ≡ false) ends i) → FoundMonth y h i
month_found y h i ends long are lt most answer =
    let rises : IsNonDecreasingBy (λ e. e) ends =
    IsNonDecreasingBy-from_default (λ e. e) ends 0 (λ m n le l. omega (arith, are m (omega arith), are n (omega arith), month_end_mono y m n le)) in
    let p = answer (IsPartitionedBy-leb (λ e. e) ends h rises) in
    let before : (m : ℕ) → m < i → m ≤ 12 → month_end y m ≤ h = λ m l le. rw (are m le) at (leb-true (get_or ends m 0) h (p.0 m 0 (omega arith) l)) in
    let after : (m : ℕ) → i ≤ m → m ≤ 12 → h < month_end y m = λ m l le. rw (are m le) at (leb-false (get_or ends m 0) h (p.1 m 0 l (omega arith))) in
    let low : 1 ≤ i =
    elim (cases_lt 0 i) [ inl l ↦ l | inr r ↦ absurd (omega (arith, after 0 r (omega arith), month_end_none y)) ] in
    let high : i ≤ 12 =
    elim (cases_lt 12 i) [ inl l ↦ absurd (omega (arith, before 12 l (omega arith), month_end_year y)) | inr r ↦ r ] in
    let e : suc (i - 1) ≡ i = omega arith in
    let to : h < month_end y (suc (i - 1)) = rw e (after i (omega arith) high) in
    record { low = low; high = high; is = sym (month_of_is y (i - 1) h (omega arith) (before (i - 1) (omega arith) (omega arith)) to ∙ e) }

-- the month, counted from 0, that holds an hour of the year
holding : (y h : ℕ) → h < year_hours y → (m : ℕ) × (m < 12) × (month_end y m ≤ h) × (h < month_end y (suc m))
holding y h lt = between (month_end y) h 12 (omega (arith, month_end_none y)) (omega (arith, month_end_year y))

pub month_of_low : (y h : ℕ) → 1 ≤ month_of y h
unfolding month_of month_of_day
month_of_low y h = omega arith

pub month_of_high : (y h : ℕ) → h < year_hours y → month_of y h ≤ 12
month_of_high y h lt =
    let p = holding y h lt in
    omega (arith, p.1, month_of_is y p.0 h p.1 p.2 p.3)

first_of_later : (y m n : ℕ) → m < n → month_end y m ≤ month_first y n
first_of_later y m zero lt = absurd (omega arith)
first_of_later y m (suc n) lt = rw (month_first_end y n) (month_end_mono y m n (omega arith))

pub month_of_from : (y h : ℕ) → h < year_hours y → month_first y (month_of y h) ≤ h
month_of_from y h lt =
    let p = holding y h lt in
    rw (month_of_is y p.0 h p.1 p.2 p.3, month_first_end y p.0) p.2

pub month_of_to : (y h : ℕ) → h < year_hours y → h < month_end y (month_of y h)
month_of_to y h lt =
    let p = holding y h lt in
    rw (month_of_is y p.0 h p.1 p.2 p.3) p.3

-- the hours before a month's end are of that month or an earlier one, the others of a later one
pub month_of_before : (y h m : ℕ) → h < year_hours y → h < month_end y m → month_of y h ≤ m
month_of_before y h m lt before =
    elim (cases_lt m (month_of y h)) [
      | inl later ↦ absurd (omega (arith, month_of_from y h lt, first_of_later y m (month_of y h) later))
      | inr r ↦ r
    ]

pub month_of_after : (y h m : ℕ) → h < year_hours y → month_end y m ≤ h → m < month_of y h
month_of_after y h m lt after =
    elim (cases_lt m (month_of y h)) [
      | inl later ↦ later
      | inr r ↦ absurd (omega (arith, month_of_to y h lt, month_end_mono y (month_of y h) m r))
    ]

-- the winter months are those up to March's end and from October's end on
pub winter_is : (y h : ℕ) → h < year_hours y → winter (month_of y h) ≡ (ltb h (month_end y 3) || leb (month_end y 10) h)
winter_is y h lt =
    let before_march = month_of_before y h 3 lt in
    let after_march = month_of_after y h 3 lt in
    let before_october = month_of_before y h 10 lt in
    let after_october = month_of_after y h 10 lt in
    grind (arith, nat_tests)

pub months_cover : (y : ℕ) → MonthsCover y
months_cover y =
    record {
      starts = month_first_end y 0 ∙ month_end_none y;
      follows = λ m _ _. month_first_end y m;
      ends = month_end_year y;
      rises = rises;
      low = λ h _. month_of_low y h;
      high = month_of_high y;
      from = month_of_from y;
      to = month_of_to y;
      only = only;
    }
  where
    rises : (m : ℕ) → 1 ≤ m → m ≤ 12 → month_first y m < month_end y m
    rises zero low high = absurd (omega arith)
    rises (suc m) low high = rw (month_first_end y m) (month_end_rises y m)

    only : (h m : ℕ) → 1 ≤ m → m ≤ 12 → month_first y m ≤ h → h < month_end y m → month_of y h ≡ m
    only h zero low high from to = absurd (omega arith)
    only h (suc m) low high from to = month_of_is y m h (omega arith) (rw (month_first_end y m) at from) to
