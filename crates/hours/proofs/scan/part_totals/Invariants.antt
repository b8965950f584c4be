-- The totals so far and those of the hours that are left make those of the part, and none outgrows its type.
use Rattle.hours.proofs.PartTotals.{Kept}
use Rattle.hours.proofs.scan.part_totals.Given as goal

abbrev pub invariant-loop-i : goal.invariant-loop-i
invariant-loop-i l = Kept l.calendar.year.number l.span.first l.i l.hours l.sum
