-- The tests of the calls, one for each row of the table of refusals.
use Rattle.std.specs.Prelude.{ℕ, Bool, cond, ◌&&◌, ◌||◌, ℤ, pos, negsuc, Ok, Err, Option, Result, int_lt, nat_le, nat_lt}
use Rattle.std.specs.Option.{ok_or}
use Rattle.calendar.specs.Hours.{year_hours}
use Rattle.calendar.specs.Years.{served}
use Rattle.hours.specs.declared.record.HourRecord.{HourRecord}
use Rattle.refusals.specs.declared.book.BookRefusal.{BookRefusal}
use Rattle.refusals.specs.declared.book.BookRefusal.TheVariants as refused
use Rattle.refusals.specs.declared.book.Lent.TheVariants.{Records, Words}
use Rattle.refusals.specs.declared.book.Quantity.TheVariants.{Power, ExtraWithdrawal, ExtraInput}
use Rattle.book.specs.declared.point.Area.{Area}
use Rattle.book.specs.declared.point.Connection.{Connection}
use Rattle.book.specs.declared.account.Opening.{Opening}
use Rattle.book.specs.declared.account.Subscription.{Subscription}
use Rattle.book.specs.Points.{area_of, connection_of, is_open, top_of}

abbrev pub Answer : Type 0 → Type 0
Answer X = Result X BookRefusal

abbrev pub fine : Answer (Unit {0})
fine = Ok tt

-- refused unless the test holds
abbrev pub unless : Bool → BookRefusal → Answer (Unit {0})
unless test refusal = cond test fine (Err refusal)

-- 20: so many records and words are lent
abbrev pub memory_answer : ℕ → ℕ → Answer (Unit {0})
memory_answer records words = cond (nat_lt records 8784) (Err (refused.Memory Records)) (cond (nat_lt words 138) (Err (refused.Memory Words)) fine)

-- 21 to 23: the arguments of open
abbrev pub year_answer : ℕ → Answer (Unit {0})
year_answer year = unless (served year) (refused.Year year)

abbrev pub area_answer : ℕ → Answer Area
area_answer area = ok_or (area_of area) (refused.Area area)

abbrev pub connection_answer : ℕ → Answer Connection
connection_answer connection = ok_or (connection_of connection) (refused.Connection connection)

-- 24: the book was opened
abbrev pub opened_answer : Option Opening → Answer Opening
opened_answer opening = ok_or opening refused.NeverOpened

-- 25: the hour is one of the year
abbrev pub hour_answer : ℕ → ℕ → Answer (Unit {0})
hour_answer year hour = unless (nat_lt hour (year_hours year)) (refused.Hour hour)

-- 26: both values lie within 32,000
abbrev pub beyond : ℤ → Bool
beyond z = int_lt z (negsuc 31999) || int_lt (pos 32000) z

abbrev pub value_answer : ℕ → HourRecord → Answer (Unit {0})
value_answer hour v = cond (beyond v.active || beyond v.reactive) (Err (refused.Value hour)) fine

-- 27 and 28: post asks for an hour without a value, amend for one with a value
abbrev pub free_answer : Bool → ℕ → Answer (Unit {0})
free_answer present hour = cond present (Err (refused.Present hour)) fine

abbrev pub there_answer : Bool → ℕ → Answer (Unit {0})
there_answer present hour = cond present fine (Err (refused.Absent hour))

-- 29 and 30: the subscription is open and within its limits
abbrev pub choice_answer : Connection → ℕ → Answer (Unit {0})
choice_answer connection choice = unless (is_open connection choice) (refused.Choice choice)

abbrev pub limits_answer : Connection → Subscription → Answer (Unit {0})
limits_answer connection s =
    cond (nat_lt (top_of connection) s.power) (Err (refused.Limit Power))
    (cond (nat_lt 32000 s.extra_withdrawal) (Err (refused.Limit ExtraWithdrawal))
    (cond (nat_lt 32000 s.extra_input) (Err (refused.Limit ExtraInput)) fine))

-- 31: a month, or 13 for the year
abbrev pub number_answer : ℕ → Answer (Unit {0})
number_answer number = unless (nat_le 1 number && nat_le number 13) (refused.Number number)
