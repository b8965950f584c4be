-- A loop over the hours of a part, each with its number.
use Rattle.std.proofs.Common.{◌≡◌, ℕ, ◌+◌, ◌-◌, ◌<◌, ◌≤◌, min, Option, Some, None, List, length, get_or, pos, Bor, ap, ◌∙◌, arith}
use Rattle.std.proofs.iter.Yields.{fronts, nat_range_steps}
use Rattle.std.proofs.lemmas.Iterator.{YieldsList, YieldsList-from_range, YieldsList-from_slice, YieldsList-from_zip, zips}
use Rattle.std.proofs.lemmas.Iterator.Consumers.{YieldsList-at, YieldsList-end, YieldsList-turn}
use Rattle.std.proofs.lemmas.List.{get_or_default}
use Rattle.std.proofs.lemmas.List.FromFn.{get_or-range_with_len, length-range_with_len}
use Rattle.std.proofs.lemmas.Slice.Zip.{get_or-zip, length-zip}
use Rattle.std.specs.Iterator.{Yields}
use Rattle.std.specs.Iterator.Adapters.{zip_first, zip_second}
use Rattle.std.specs.List.{range_with_len, zip}
use Rattle.std.specs.Slice.Iter.{iter_rest}
use Rattle.std.specs.declared.iter.Zip.{Zip}
use Rattle.std.specs.declared.ops.Range.{Range}
use Rattle.std.specs.declared.slice.Iter.{Iter}
use Rattle.hours.specs.declared.record.HourRecord.{HourRecord}

abbrev pub blank : HourRecord
blank = record { active = pos 0; reactive = pos 0 }

module _ (first end : ℕ) (hours : List HourRecord) where
  abbrev numbered : List (ℕ × HourRecord)
  numbered = zip (range_with_len first (end - first)) hours

  long : length numbered ≡ min (end - first) (length hours)
  long = length-zip (range_with_len first (end - first)) hours ∙ ap (λ (n : ℕ). min n (length hours)) (length-range_with_len first (end - first))

  -- the pair at place i
  pair : (i : ℕ) (p : ℕ × HourRecord) → i < length numbered → p ≡ get_or numbered i p → (i < length hours) × (p.0 ≡ first + i) × (p.1 ≡ get_or hours i blank)
  pair i p lt e =
      let width = length-range_with_len first (end - first) in
      let size = long in
      let inside : i < end - first = omega arith in
      let lent : i < length hours = omega arith in
      let at = e ∙ get_or-zip (range_with_len first (end - first)) hours i p (omega arith) lent in (
        lent,
        ap (λ (q : ℕ × HourRecord). q.0) at ∙ get_or-range_with_len first (end - first) i p.0 inside,
        ap (λ (q : ℕ × HourRecord). q.1) at ∙ get_or_default hours i p.1 blank lent,
      )

  -- the loop's iterator s is the pair z of the numbers and of the part's records
  module _ (s z : Zip (Range ℕ) (Iter HourRecord)) (part : List HourRecord) (into : s ≡ z) (numbers : zip_first z ≡ record { start = first; end = end }) (records : iter_rest (zip_second z) ≡ part) (are : part ≡ hours) where
    road : YieldsList (zips nat_range_steps fronts) (λ p. (p.0, p.1.now)) s numbered
    road = YieldsList-at into (YieldsList-from_zip (YieldsList-from_range first end (end - first) numbers (omega arith)) (YieldsList-from_slice hours (records ∙ are)))

    module _ (xs : List (ℕ × Bor HourRecord)) (t u : Zip (Range ℕ) (Iter HourRecord)) (y : Yields (zips nat_range_steps fronts) s xs t) (r : Option (ℕ × Bor HourRecord)) where
      -- which hour comes after those of xs
      pub hour_turn : (p : ℕ × Bor HourRecord) → r ≡ Some p → zips nat_range_steps fronts t r u
          → (length xs < length hours) × (p.0 ≡ first + length xs) × (p.1.now ≡ get_or hours (length xs) blank)
      hour_turn p is step = let turn = YieldsList-turn road xs t y r u p is step in pair (length xs) (p.0, p.1.now) turn.0 turn.1

      -- the loop ends with the last of the hours
      pub hour_end : length hours ≤ end - first → r ≡ None → zips nat_range_steps fronts t r u → length xs ≡ length hours
      hour_end few is step = let all = (YieldsList-end road xs t y r u is step).1 in let size = long in omega arith
