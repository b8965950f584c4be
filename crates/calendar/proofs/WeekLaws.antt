-- Laws of weeks: consecutive parts that cover the year's hours exactly, Monday to Sunday.
use Rattle.std.proofs.Common.{◌≡◌, ℕ, suc, ◌+◌, ◌-◌, ◌*◌, ◌/◌, ◌<◌, ◌≤◌, min, ◌⊎◌, ap, ◌∙◌, inl, inr, arith}
use Rattle.std.proofs.lemmas.Bool.{cases_lt}
use Rattle.std.proofs.lemmas.Bool.Decides.{nat_tests}
use Rattle.calendar.specs.Days.{year_days, days_to, first_weekday_of, weekday, last_sunday}
use Rattle.calendar.specs.Hours.{year_hours, summer_start_of, summer_end_of, clock, day_of, time_of, midnight}
use Rattle.calendar.specs.Weeks.{week_of, weeks, monday, week_first, week_end}
use Rattle.calendar.specs.Laws.{WeeksCover, week_length, spring_week, autumn_week}
use Rattle.calendar.proofs.DayLaws.{year_days_low, year_days_high, last_sunday_low, last_sunday_high}
use Rattle.calendar.proofs.HourLaws.{spring_before_autumn, midnight_first, midnight_year, midnight_rises, midnight_mono, midnight_shows, day_of_from, day_of_to, day_of_year}

pub first_weekday_below : (y : ℕ) → first_weekday_of y < 7
unfolding first_weekday_of
first_weekday_below y = omega arith

pub weeks_low : (y : ℕ) → 53 ≤ weeks y
unfolding weeks
weeks_low y = omega (arith, year_days_low y)

pub weeks_high : (y : ℕ) → weeks y ≤ 54
unfolding weeks
weeks_high y = omega (arith, year_days_high y, first_weekday_below y)

pub monday_high : (y w : ℕ) → w < weeks y → monday y w < year_days y
unfolding weeks
monday_high y w lt = omega (arith, first_weekday_below y, year_days_low y)

-- a week begins where the one before ends
pub week_first_end : (y w : ℕ) → suc w < weeks y → week_first y (suc w) ≡ week_end y w
unfolding week_first week_end weeks
week_first_end y w lt =
    let e : monday y (suc w) ≡ min (monday y (suc w)) (year_days y) = omega (arith, first_weekday_below y) in
    ap (midnight y) e

pub week_first_none : (y : ℕ) → week_first y 0 ≡ 0
unfolding week_first
week_first_none y = let e : 7 * 0 - first_weekday_of y ≡ 0 = omega arith in rw e (midnight_first y)

pub week_end_year : (y : ℕ) → week_end y (weeks y - 1) ≡ year_hours y
unfolding week_end weeks
week_end_year y =
    let e : min (monday y (suc (weeks y - 1))) (year_days y) ≡ year_days y = omega (arith, first_weekday_below y, year_days_low y) in
    ap (midnight y) e ∙ midnight_year y

pub week_end_high : (y w : ℕ) → week_end y w ≤ year_hours y
unfolding week_end
week_end_high y w =
    omega (arith, midnight_year y, midnight_mono y (min (monday y (suc w)) (year_days y)) (year_days y) (omega arith))

pub week_rises : (y w : ℕ) → w < weeks y → week_first y w < week_end y w
unfolding week_first week_end weeks
week_rises y w lt =
    let p : monday y w < min (monday y (suc w)) (year_days y) = omega (arith, first_weekday_below y, year_days_low y) in
    omega (arith, midnight_rises y (monday y w), midnight_mono y (suc (monday y w)) (min (monday y (suc w)) (year_days y)) p)

pub week_of_below : (y h : ℕ) → h < year_hours y → week_of y h < weeks y
unfolding week_of weeks
week_of_below y h lt = omega (arith, day_of_year y h lt)

pub week_of_from : (y h : ℕ) → week_first y (week_of y h) ≤ h
unfolding week_first week_of
week_of_from y h =
    let p : monday y ((first_weekday_of y + day_of y h) / 7) ≤ day_of y h = omega arith in
    omega (arith, day_of_from y h, midnight_mono y (monday y ((first_weekday_of y + day_of y h) / 7)) (day_of y h) p)

pub week_of_to : (y h : ℕ) → h < year_hours y → h < week_end y (week_of y h)
unfolding week_end week_of
week_of_to y h lt =
    let last : ℕ = min (monday y (suc ((first_weekday_of y + day_of y h) / 7))) (year_days y) in
    let p : suc (day_of y h) ≤ last = omega (arith, day_of_year y h lt) in
    omega (arith, day_of_to y h, midnight_mono y (suc (day_of y h)) last p)

pub week_of_is : (y h w : ℕ) → week_first y w ≤ h → h < week_end y w → week_of y h ≡ w
unfolding week_first week_end week_of
week_of_is y h w from to =
    let last : ℕ = min (monday y (suc w)) (year_days y) in
    let low : monday y w ≤ day_of y h =
    elim (cases_lt (day_of y h) (monday y w)) [
      | inl l ↦ absurd (omega (arith, day_of_to y h, midnight_mono y (suc (day_of y h)) (monday y w) l))
      | inr r ↦ r
    ] in
    let high : day_of y h < last =
    elim (cases_lt (day_of y h) last) [
      | inl l ↦ l
      | inr r ↦ absurd (omega (arith, day_of_from y h, midnight_mono y last (day_of y h) r))
    ] in
    omega (arith, first_weekday_below y)

-- a week's first hour is its first day's midnight
pub week_first_day : (y w : ℕ) → day_of y (week_first y w) ≡ monday y w
unfolding day_of week_first
week_first_day y w = omega (arith, midnight_shows y (monday y w))

pub week_first_time : (y w : ℕ) → time_of y (week_first y w) ≡ 0
unfolding time_of week_first
week_first_time y w = omega (arith, midnight_shows y (monday y w))

pub week_first_monday : (y w : ℕ) → 0 < w → weekday y (day_of y (week_first y w)) ≡ 0
unfolding weekday
week_first_monday y w some = omega (arith, week_first_day y w, first_weekday_below y)

-- the days on which summer time begins and ends, and how far they are from each other and from the year's ends
pub spring_day : (y : ℕ) → day_of y (summer_start_of y) ≡ last_sunday y 3
unfolding day_of clock summer_start_of summer_end_of
spring_day y = grind (arith, nat_tests, spring_before_autumn y)

pub autumn_day : (y : ℕ) → day_of y (summer_end_of y) ≡ last_sunday y 10
unfolding day_of clock summer_start_of summer_end_of
autumn_day y = grind (arith, nat_tests)

pub record Far (y : ℕ) : Type 0 where
  pub spring : 83 ≤ last_sunday y 3
  pub between : last_sunday y 3 + 207 ≤ last_sunday y 10
  pub autumn : last_sunday y 10 + 61 < year_days y

pub far : (y : ℕ) → Far y
unfolding days_to
far y =
    record {
      spring = omega (arith, last_sunday_low y 3);
      between = omega (arith, last_sunday_high y 2, last_sunday_low y 10);
      autumn = omega (arith, last_sunday_high y 9);
    }

-- seven days on from one midnight to another
pub seven_days : (y d : ℕ) → (last_sunday y 3 < d) ⊎ (d + 7 ≤ last_sunday y 3) → (last_sunday y 10 < d) ⊎ (d + 7 ≤ last_sunday y 10) → midnight y (d + 7) ≡ midnight y d + 168
unfolding midnight summer_start_of summer_end_of
seven_days y d s a = grind (arith, nat_tests)

pub seven_days_spring : (y d : ℕ) → d ≤ last_sunday y 3 → last_sunday y 3 < d + 7 → midnight y (d + 7) ≡ midnight y d + 167
unfolding midnight summer_start_of summer_end_of
seven_days_spring y d from to = let f = far y in grind (arith, nat_tests)

pub seven_days_autumn : (y d : ℕ) → d ≤ last_sunday y 10 → last_sunday y 10 < d + 7 → midnight y (d + 7) ≡ midnight y d + 169
unfolding midnight summer_start_of summer_end_of
seven_days_autumn y d from to = let f = far y in grind (arith, nat_tests)

-- a week that the year's ends do not cut
whole_week : (y w n : ℕ) → 0 < w → 7 * w + 7 ≤ first_weekday_of y + year_days y → midnight y (monday y w + 7) ≡ midnight y (monday y w) + n → week_length y w ≡ n
unfolding week_first week_end
whole_week y w n some fits e =
    let next : min (monday y (suc w)) (year_days y) ≡ monday y w + 7 = omega (arith, first_weekday_below y) in
    rw next (omega arith)

pub week_whole : (y w : ℕ) → 0 < w → suc w < weeks y → (w ≡ spring_week y → ⊥) → (w ≡ autumn_week y → ⊥) → week_length y w ≡ 168
unfolding week_of weeks
week_whole y w some last spring autumn =
    let f = first_weekday_below y in
    let s = spring_day y in
    let a = autumn_day y in
    whole_week y w 168 some (omega arith) (seven_days y (monday y w) (grind arith) (grind arith))

pub week_spring : (y : ℕ) → week_length y (spring_week y) ≡ 167
unfolding week_of
week_spring y =
    let f = first_weekday_below y in
    let s = spring_day y in
    let r = far y in
    whole_week y (spring_week y) 167 (omega arith) (omega arith) (seven_days_spring y (monday y (spring_week y)) (omega arith) (omega arith))

pub week_autumn : (y : ℕ) → week_length y (autumn_week y) ≡ 169
unfolding week_of
week_autumn y =
    let f = first_weekday_below y in
    let a = autumn_day y in
    let r = far y in
    whole_week y (autumn_week y) 169 (omega arith) (omega arith) (seven_days_autumn y (monday y (autumn_week y)) (omega arith) (omega arith))

pub weeks_cover : (y : ℕ) → WeeksCover y
weeks_cover y =
    record {
      starts = week_first_none y;
      follows = week_first_end y;
      ends = week_end_year y;
      rises = week_rises y;
      high = week_of_below y;
      from = λ h _. week_of_from y h;
      to = week_of_to y;
      only = λ h w _. week_of_is y h w;
      monday = λ w some _. week_first_monday y w some;
      midnight = λ w _. week_first_time y w;
      whole = week_whole y;
      spring = week_spring y;
      autumn = week_autumn y;
    }
