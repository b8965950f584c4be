-- The weekday is counted on from that of 1 January, and the table has the weekdays in their order.
use Rattle.std.proofs.Common.{◌≡◌, ℕ, ◌+◌, ◌%◌, ◌<◌, map, get_or, sym, refl, ap, ◌∙◌, zero-add, arith}
use Rattle.std.specs.List.{range_with_len}
use Rattle.std.proofs.Math.ListN.{get_or-map}
use Rattle.std.proofs.lemmas.List.FromFn.{get_or-range_with_len}
use Rattle.calendar.specs.declared.date.Weekday.TheVariants.{Monday}
use Rattle.calendar.specs.declared.dates.TheConstants.{WEEKDAYS}
use Rattle.calendar.specs.Dates.{weekday_number}
use Rattle.calendar.specs.Days.{weekday}
use Rattle.calendar.proofs.day.DayOfYear.weekday.Goals as goal

in_order : (k : ℕ) → k < 7 → weekday_number (get_or WEEKDAYS k Monday) ≡ k
in_order k lt =
    let row : map weekday_number WEEKDAYS ≡ range_with_len 0 7 = refl in
    sym (get_or-map weekday_number WEEKDAYS k Monday) ∙ ap (λ xs. get_or xs k 0) row ∙ get_or-range_with_len 0 7 k 0 lt ∙ zero-add k

pub returns : goal.returns
unfolding weekday
returns c =
    let d = c.args.self in
    record { weekday = in_order ((d.calendar.now.first_weekday + d.number) % 7) (omega arith) ∙ ap (λ (f : ℕ). (f + d.number) % 7) d.calendar.now.begins }
