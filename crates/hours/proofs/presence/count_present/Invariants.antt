-- The present hours of the words so far and those that are left make the count of the part.
use Rattle.std.proofs.Common.{◌≡◌, ◌+◌, ◌-◌, ◌*◌, ◌≤◌, max}
use Rattle.hours.specs.Presence.{count, present}
use Rattle.hours.proofs.presence.count_present.Given as goal

abbrev pub invariant-loop-i : goal.invariant-loop-i
invariant-loop-i l =
    (l.total + count (present l.words) (max l.span.first (l.i * 64)) (l.span.end - max l.span.first (l.i * 64)) ≡ count (present l.words) l.span.first (l.span.end - l.span.first))
    × (l.total ≤ max l.span.first (l.i * 64))
