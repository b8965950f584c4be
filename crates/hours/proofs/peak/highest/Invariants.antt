-- The highest so far and the highest of what is left make the highest of the part.
use Rattle.std.proofs.Common.{◌≡◌, ◌≤◌, max, map, drop}
use Rattle.hours.specs.Values.{highest_of, limited}
use Rattle.hours.proofs.peak.highest.Given as goal

abbrev pub invariant-loop-hour : goal.invariant-loop-hour
invariant-loop-hour l = (max l.high (highest_of l.flow (map limited (drop l.hour-index l.hours))) ≡ highest_of l.flow (map limited l.hours)) × (l.high ≤ 32000)
