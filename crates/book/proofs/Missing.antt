-- The hours without a value of a part of the year: those whose bit is zero.
use Rattle.std.proofs.Common.{◌≡◌, ℕ, ◌+◌, ◌-◌, ◌<◌, ◌≤◌, Bool, true, false, cond, not, ◌&&◌, eqb, List, get_or, is_some, length, Some, None, Ok, Option, sym, refl, ap, ◌∙◌, ap₂, arith}
use Rattle.std.proofs.lemmas.Bool.{lt-ltb}
use Rattle.std.proofs.lemmas.Bool.Decides.{nat_tests}
use Rattle.calendar.specs.Hours.{month_end, year_hours}
use Rattle.calendar.proofs.MonthLaws.{month_end_high}
use Rattle.hours.specs.declared.record.HourRecord.{HourRecord}
use Rattle.hours.specs.Presence.{count, present}
use Rattle.hours.specs.Values.{limited}
use Rattle.hours.proofs.Counted.{count_alike, count_both}
use Rattle.book.specs.declared.account.Opening.{Opening}
use Rattle.book.specs.Memory.{blank, has_value, read, state}
use Rattle.book.specs.Answers.{fine, memory_answer, number_answer, opened_answer}
use Rattle.book.specs.Plain.{end_hour, first_hour, holds, missing_answer, Plain}

-- an hour of a plain book that is read from memory is present where the memory has a value
pub holds_reads : (o : Option Opening) (rs : List HourRecord) (ws : List ℕ) (h : ℕ) → holds (read (state o rs ws)) h ≡ has_value o ws h
holds_reads o rs ws h = by (has_value o ws h)
  where
    by : (t : Bool) → is_some (cond t (Some (limited (get_or rs h blank))) None) ≡ t
    by true = refl
    by false = refl

in_year : (o : Opening) (ws : List ℕ) (h : ℕ) → h < year_hours o.year → has_value (Some o) ws h ≡ present ws h
in_year o ws h lt = ap (λ (t : Bool). t && present ws h) (lt-ltb h (year_hours o.year) lt)

-- no part ends after the year
pub end_hour_high : (y number : ℕ) → number ≤ 13 → end_hour y number ≤ year_hours y
end_hour_high y number le = by (eqb number 13) refl
  where
    by : (t : Bool) → eqb number 13 ≡ t → cond t (year_hours y) (month_end y number) ≤ year_hours y
    by true e = omega arith
    by false e = month_end_high y number (grind (arith, nat_tests))

module _ (o : Opening) (rs : List HourRecord) (ws : List ℕ) (first n : ℕ) (inside : first + n ≤ year_hours o.year) where
  pub absent_count : n - count (present ws) first n ≡ count (λ h. not (holds (read (state (Some o) rs ws)) h)) first n
  absent_count =
      let both = count_both (present ws) first n in
      let same : count (λ h. not (holds (read (state (Some o) rs ws)) h)) first n ≡ count (λ h. not (present ws h)) first n =
      count_alike _ _ first n (λ h ge lt. ap not (holds_reads (Some o) rs ws h ∙ in_year o ws h (omega arith))) in
      omega arith

pub number_high : (number : ℕ) → fine ≡ number_answer number → number ≤ 13
number_high number e = grind (arith, nat_tests)

-- the tests of missing, all passed
pub missing_told : (n m : ℕ) (p : Plain) (o : Opening) (number k : ℕ) (u : Unit {0}) → Ok u ≡ memory_answer n m → Ok o ≡ opened_answer p.opening → fine ≡ number_answer number
    → k ≡ count (λ h. not (holds p h)) (first_hour o.year number) (end_hour o.year number - first_hour o.year number) → Ok k ≡ missing_answer n m p number
missing_told n m p o number k u memory opened numbered e = rw (← memory, ← opened, ← numbered) (ap Ok e)

-- the hours of the part less its ones are what missing answers
pub missing_law : (b : Option Opening) (rs : List HourRecord) (ws : List ℕ) (number : ℕ) (o : Opening) (first end ones : ℕ) (u : Unit {0})
    → Ok u ≡ memory_answer (length rs) (length ws) → Ok o ≡ opened_answer b → fine ≡ number_answer number
    → first ≡ first_hour o.year number → end ≡ end_hour o.year number → first ≤ end → ones ≡ count (present ws) first (end - first)
    → Ok (end - first - ones) ≡ missing_answer (length rs) (length ws) (read (state b rs ws)) number
missing_law None rs ws number o first end ones u memory opened numbered from to forward counted = cc
missing_law (Some o') rs ws number o first end ones u memory opened numbered from to forward counted =
    let last = end_hour_high o.year number (number_high number numbered) in
    let same : o' ≡ o = cc in
    let read_by : Opening → ℕ → ℕ → ℕ = λ x f e. count (λ h. not (holds (read (state (Some x) rs ws)) h)) f (e - f) in
    missing_told (length rs) (length ws) (read (state (Some o') rs ws)) o number (end - first - ones) u memory opened numbered
    (ap (λ (k : ℕ). end - first - k) counted
    ∙ absent_count o rs ws first (end - first) (omega arith)
    ∙ ap (λ (x : Opening). read_by x first end) (sym same)
    ∙ ap₂ (read_by o') from to)
