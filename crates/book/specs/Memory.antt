-- Book and lent memory: the plain book that they stand for, and what each call leaves in them.
use Rattle.std.specs.Prelude.{ℕ, Bool, false, cond, ◌&&◌, List, pos, Some, None, Ok, Err, Option, nat_lt, slice_index_or, slice_set}
use Rattle.calendar.specs.Hours.{year_hours}
use Rattle.hours.specs.declared.record.HourRecord.{HourRecord}
use Rattle.hours.specs.Presence.{cleared, marked, present}
use Rattle.hours.specs.Values.{limited}
use Rattle.book.specs.declared.account.Opening.{Opening}
use Rattle.book.specs.Answers.{Answer}
use Rattle.book.specs.Plain.{Plain, plain}

pub record State : Type 0 where
  pub opening : Option Opening
  pub records : List HourRecord
  pub words : List ℕ

abbrev pub state : Option Opening → List HourRecord → List ℕ → State
state o rs ws = record { opening = o; records = rs; words = ws }

abbrev pub blank : HourRecord
blank = record { active = pos 0; reactive = pos 0 }

-- an hour has a value if the book is open, the hour is one of its year and its bit is one
abbrev pub has_value : Option Opening → List ℕ → ℕ → Bool
has_value None ws h = false
has_value (Some o) ws h = nat_lt h (year_hours o.year) && present ws h

-- its value is the record's, limited
abbrev pub value_at : Option Opening → List HourRecord → List ℕ → ℕ → Option HourRecord
value_at o rs ws h = cond (has_value o ws h) (Some (limited (slice_index_or rs h blank))) None

-- memory read as a plain book
abbrev pub read : State → Plain
read s = plain s.opening (value_at s.opening s.records s.words)

-- what open and choose answer: accepted, or the refusal
abbrev pub done : {X : Type 0} → Answer X → Answer (Unit {0})
done (Ok _) = Ok tt
done (Err e) = Err e

-- what a call leaves: everything as it was, if it refuses
abbrev pub after_open : Answer Opening → State → State
after_open (Ok o) s = state (Some o) s.records (cleared s.words)
after_open (Err e) s = s

abbrev pub after_post : Answer (Unit {0}) → State → ℕ → HourRecord → State
after_post (Ok _) s h v = state s.opening (slice_set s.records h v) (marked s.words h)
after_post (Err e) s h v = s

abbrev pub after_amend : Answer (Unit {0}) → State → ℕ → HourRecord → State
after_amend (Ok _) s h v = state s.opening (slice_set s.records h v) s.words
after_amend (Err e) s h v = s

abbrev pub after_choose : Answer Opening → Option Opening → Option Opening
after_choose (Ok o) before = Some o
after_choose (Err e) before = before
