-- Read as a plain book, the memory after an accepted call is the plain book before it with exactly the accepted change.
use Rattle.std.proofs.Common.{◌≡◌, ℕ, ◌/◌, ◌<◌, ◌≤◌, Bool, true, false, cond, ◌&&◌, ltb, ◌≢◌, List, length, get_or, set, ℤ, Some, None, Ok, Err, Option, sym, refl, ap, ◌∙◌, ap₂, inl, inr, arith}
use mathlib.Core.Path.{fun_ext}
use Rattle.std.proofs.lemmas.List.{get_or-set_other, get_or-set_same}
use Rattle.std.proofs.lemmas.Bool.{and_parts, cases_Bool, cases_eq, eq-eqb, lt-ltb, ltb-true, ne_eqb}
use Rattle.std.proofs.lemmas.Bool.Decides.{nat_tests}
use Rattle.calendar.specs.Hours.{year_hours}
use Rattle.calendar.proofs.HourLaws.{year_hours_high}
use Rattle.hours.specs.declared.record.HourRecord.{HourRecord}
use Rattle.hours.specs.Presence.{cleared, marked, present}
use Rattle.hours.specs.Values.{limit, limited}
use Rattle.hours.proofs.Marks.{cleared_absent, marked_present, others_kept}
use Rattle.book.specs.declared.account.Opening.{Opening}
use Rattle.book.specs.Answers.{Answer, beyond, hour_answer, memory_answer, value_answer}
use Rattle.book.specs.Memory.{blank, has_value, read, state, value_at}
use Rattle.book.specs.Plain.{◌then◌, opened, place_answer, Plain, plain, put}

-- tests that all pass have each passed
pub passed : {X Y : Type 0} (first : Answer X) (next : X → Answer Y) (y : Y) → (first then next) ≡ Ok y → (x : X) × (first ≡ Ok x) × (next x ≡ Ok y)
passed (Ok x) next y e = (x, refl, e)
passed (Err f) next y e = cc

-- a value that is not refused counts as it is
within_limit : (z : ℤ) → beyond z ≡ false → limit z ≡ z
within_limit z e = grind (arith, nat_tests)

counts_whole : (h : ℕ) (v : HourRecord) (u : Unit {0}) → value_answer h v ≡ Ok u → limited v ≡ v
counts_whole h v u e =
    let a : beyond v.active ≡ false = grind (arith, nat_tests) in
    let b : beyond v.reactive ≡ false = grind (arith, nat_tests) in
    ap₂ (λ (x y : ℤ). record { active = x; reactive = y }) (within_limit v.active a) (within_limit v.reactive b)

memory_long : (n m : ℕ) (u : Unit {0}) → memory_answer n m ≡ Ok u → (8784 ≤ n) × (138 ≤ m)
memory_long n m u e = (grind (arith, nat_tests), grind (arith, nat_tests))

hour_in_year : (y h : ℕ) (u : Unit {0}) → hour_answer y h ≡ Ok u → h < year_hours y
hour_in_year y h u e = grind (arith, nat_tests)

-- what a place that is not refused has passed
pub record Placed (o : Opening) (rs : List HourRecord) (ws : List ℕ) (h : ℕ) (v : HourRecord) : Type 0 where
  pub record_lent : h < length rs
  pub word_lent : h / 64 < length ws
  pub inside : ltb h (year_hours o.year) ≡ true
  pub whole : limited v ≡ v

module _ (o : Opening) (rs : List HourRecord) (ws : List ℕ) (h : ℕ) (v : HourRecord) where
  placed : (u : Unit {0}) → place_answer (length rs) (length ws) (Some o) h v ≡ Ok u → Placed o rs ws h v
  placed u e =
      let a = passed (memory_answer (length rs) (length ws)) _ u e in
      let long = memory_long (length rs) (length ws) a.0 a.1 in
      let b = passed (hour_answer o.year h) _ u a.2 in
      let lt = hour_in_year o.year h b.0 b.1 in
      let few = year_hours_high o.year in
      record {
        record_lent = omega arith;
        word_lent = omega arith;
        inside = lt-ltb h (year_hours o.year) lt;
        whole = counts_whole h v u b.2;
      }

  put_same : (f : ℕ → Option HourRecord) (k : ℕ) → k ≡ h → put f h v k ≡ Some v
  put_same f k e = ap (λ (t : Bool). cond t (Some v) (f k)) (eq-eqb k h e)

  put_other : (f : ℕ → Option HourRecord) (k : ℕ) → k ≢ h → put f h v k ≡ f k
  put_other f k ne = ap (λ (t : Bool). cond t (Some v) (f k)) (ne_eqb k h ne)

  -- the hour's value once its record is written and its bit is one
  at_the_hour : (words : List ℕ) (k : ℕ) → Placed o rs ws h v → present words h ≡ true → k ≡ h → value_at (Some o) (set rs h v) words k ≡ Some v
  at_the_hour words k p there e =
      ap (value_at (Some o) (set rs h v) words) e
      ∙ ap₂ (λ (t : Bool) (x : HourRecord). cond t (Some (limited x)) None) (ap₂ ◌&&◌ p.inside there) (get_or-set_same rs h v blank p.record_lent)
      ∙ ap Some p.whole

  at_another : (words : List ℕ) (k : ℕ) → present words k ≡ present ws k → k ≢ h → value_at (Some o) (set rs h v) words k ≡ value_at (Some o) rs ws k
  at_another words k same ne =
      ap₂ (λ (t : Bool) (x : HourRecord). cond (ltb k (year_hours o.year) && t) (Some (limited x)) None) same (get_or-set_other rs h k v blank ne)

  post_puts : Placed o rs ws h v → (k : ℕ) → value_at (Some o) (set rs h v) (marked ws h) k ≡ put (value_at (Some o) rs ws) h v k
  post_puts p k = elim (cases_eq k h) [
    | inl e ↦ at_the_hour (marked ws h) k p (marked_present ws h p.word_lent) e ∙ sym (put_same (value_at (Some o) rs ws) k e)
    | inr ne ↦ at_another (marked ws h) k (others_kept ws h p.word_lent k ne) ne ∙ sym (put_other (value_at (Some o) rs ws) k ne)
  ]

  amend_puts : Placed o rs ws h v → present ws h ≡ true → (k : ℕ) → value_at (Some o) (set rs h v) ws k ≡ put (value_at (Some o) rs ws) h v k
  amend_puts p there k = elim (cases_eq k h) [
    | inl e ↦ at_the_hour ws k p there e ∙ sym (put_same (value_at (Some o) rs ws) k e)
    | inr ne ↦ at_another ws k refl ne ∙ sym (put_other (value_at (Some o) rs ws) k ne)
  ]

-- a book that was never opened is given no value
never_placed : (n m h : ℕ) (v : HourRecord) (u : Unit {0}) → place_answer n m None h v ≡ Ok u → ⊥
never_placed n m h v u e =
    let a = passed (memory_answer n m) _ u e in
    let refused = a.2 in cc

pub post_accepted : (b : Option Opening) (rs : List HourRecord) (ws : List ℕ) (h : ℕ) (v : HourRecord) (u : Unit {0}) → Ok u ≡ place_answer (length rs) (length ws) b h v
    → read (state b (set rs h v) (marked ws h)) ≡ plain b (put (value_at b rs ws) h v)
post_accepted (Some o) rs ws h v u e = ap (plain (Some o)) (fun_ext (post_puts o rs ws h v (placed o rs ws h v u (sym e))))
post_accepted None rs ws h v u e = absurd (never_placed (length rs) (length ws) h v u (sym e))

pub amend_accepted : (b : Option Opening) (rs : List HourRecord) (ws : List ℕ) (h : ℕ) (v : HourRecord) (u : Unit {0}) → Ok u ≡ place_answer (length rs) (length ws) b h v → true ≡ has_value b ws h
    → read (state b (set rs h v) ws) ≡ plain b (put (value_at b rs ws) h v)
amend_accepted (Some o) rs ws h v u e there =
    let bit = and_parts (ltb h (year_hours o.year)) (present ws h) (sym there) in
    ap (plain (Some o)) (fun_ext (amend_puts o rs ws h v (placed o rs ws h v u (sym e)) bit.1))
amend_accepted None rs ws h v u e there = absurd (never_placed (length rs) (length ws) h v u (sym e))

-- no hour of a year has a value once its words are cleared
nothing_left : (o : Opening) (rs : List HourRecord) (ws : List ℕ) (k : ℕ) → value_at (Some o) rs (cleared ws) k ≡ None
nothing_left o rs ws k = elim (cases_Bool (ltb k (year_hours o.year))) [
  | inl inside ↦
      let lt = ltb-true k (year_hours o.year) inside in
      let few = year_hours_high o.year in
      ap₂ (λ (s t : Bool). cond (s && t) (Some (limited (get_or rs k blank))) None) inside (cleared_absent ws k (omega arith))
  | inr past ↦ ap (λ (s : Bool). cond (s && present (cleared ws) k) (Some (limited (get_or rs k blank))) None) past
]

pub open_accepted : (o : Opening) (rs : List HourRecord) (ws : List ℕ) (a : Answer Opening) (p : Plain) → Ok o ≡ a → read (state (Some o) rs (cleared ws)) ≡ opened a p
open_accepted o rs ws a p e = ap (plain (Some o)) (fun_ext (nothing_left o rs ws)) ∙ ap (λ (r : Answer Opening). opened r p) e
