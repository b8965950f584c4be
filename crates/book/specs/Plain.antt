-- The plain book: what a book holds and, for each hour, a value or none; and what each call answers on it and makes of it.
use Rattle.std.specs.Prelude.{ℕ, ◌-◌, Bool, cond, not, is_some, Some, None, Ok, Err, Option, ◌==◌}
use Rattle.calendar.specs.Hours.{month_end, month_first, year_hours}
use Rattle.hours.specs.declared.record.HourRecord.{HourRecord}
use Rattle.hours.specs.Presence.{count}
use Rattle.book.specs.declared.point.Area.{Area}
use Rattle.book.specs.declared.point.Connection.{Connection}
use Rattle.book.specs.declared.account.Opening.{Opening}
use Rattle.book.specs.declared.account.Subscription.{Subscription}
use Rattle.book.specs.Points.{own_choice}
use Rattle.book.specs.Answers.{Answer, area_answer, choice_answer, connection_answer, free_answer, hour_answer, limits_answer, memory_answer, number_answer, opened_answer, there_answer, value_answer, year_answer}

pub record Plain : Type 0 where
  pub opening : Option Opening
  pub at : ℕ → Option HourRecord

abbrev pub plain : Option Opening → (ℕ → Option HourRecord) → Plain
plain o f = record { opening = o; at = f }

-- an hour with a value is present
abbrev pub holds : Plain → ℕ → Bool
holds p hour = is_some (p.at hour)

-- the next test, on what the one before it found, unless that refuses
infixr 20 ◌then◌
abbrev pub ◌then◌ : {X Y : Type 0} → Answer X → (X → Answer Y) → Answer Y
(Ok x) then next = next x
(Err e) then next = Err e

-- open: the connection's own choice, 0 kW and no extras; all values are removed
abbrev pub first_subscription : Connection → Subscription
first_subscription c = record { choice = own_choice c; power = 0; extra_withdrawal = 0; extra_input = 0 }

abbrev pub opened_as : ℕ → Area → Connection → Opening
opened_as y a c = record { year = y; area = a; connection = c; subscription = first_subscription c }

abbrev pub open_answer : ℕ → ℕ → ℕ → ℕ → ℕ → Answer Opening
open_answer records words year area connection =
    memory_answer records words then λ _. year_answer year then λ _. area_answer area then λ a.
    connection_answer connection then λ c. Ok (opened_as year a c)

-- post and amend: the hour's place is tested alike
abbrev pub place_answer : ℕ → ℕ → Option Opening → ℕ → HourRecord → Answer (Unit {0})
place_answer records words opening hour value =
    memory_answer records words then λ _. opened_answer opening then λ o. hour_answer o.year hour then λ _. value_answer hour value

abbrev pub post_answer : ℕ → ℕ → Plain → ℕ → HourRecord → Answer (Unit {0})
post_answer records words p hour value = place_answer records words p.opening hour value then λ _. free_answer (holds p hour) hour

abbrev pub amend_answer : ℕ → ℕ → Plain → ℕ → HourRecord → Answer (Unit {0})
amend_answer records words p hour value = place_answer records words p.opening hour value then λ _. there_answer (holds p hour) hour

-- choose is lent no memory
abbrev pub with_subscription : Opening → Subscription → Opening
with_subscription o s = record { year = o.year; area = o.area; connection = o.connection; subscription = s }

abbrev pub choose_answer : Option Opening → Subscription → Answer Opening
choose_answer opening s =
    opened_answer opening then λ o. choice_answer o.connection s.choice then λ _. limits_answer o.connection s then λ _.
    Ok (with_subscription o s)

-- the hours of a month, or of the year for 13
abbrev pub first_hour : ℕ → ℕ → ℕ
first_hour year number = cond (number == 13) 0 (month_first year number)

abbrev pub end_hour : ℕ → ℕ → ℕ
end_hour year number = cond (number == 13) (year_hours year) (month_end year number)

-- missing: how many of these hours have no value
abbrev pub missing_answer : ℕ → ℕ → Plain → ℕ → Answer ℕ
missing_answer records words p number =
    memory_answer records words then λ _. opened_answer p.opening then λ o. number_answer number then λ _.
    Ok (count (λ h. not (holds p h)) (first_hour o.year number) (end_hour o.year number - first_hour o.year number))

-- what an accepted call makes of the plain book; a refused one changes nothing
abbrev pub put : (ℕ → Option HourRecord) → ℕ → HourRecord → ℕ → Option HourRecord
put at hour value h = cond (h == hour) (Some value) (at h)

-- an opening removes all values
abbrev pub opened : Answer Opening → Plain → Plain
opened (Ok o) p = plain (Some o) (λ _. None)
opened (Err e) p = p

-- post gives an hour its value, amend a new one, and no other hour moves
abbrev pub written : Answer (Unit {0}) → Plain → ℕ → HourRecord → Plain
written (Ok _) p hour value = plain p.opening (put p.at hour value)
written (Err e) p hour value = p

-- choose sets the subscription, and no hour moves
abbrev pub chosen : Answer Opening → Plain → Plain
chosen (Ok o) p = plain (Some o) p.at
chosen (Err e) p = p
