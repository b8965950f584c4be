-- What the bytes so far and the rest of the line carry is what the line carries.
use Rattle.std.proofs.Common.{◌≡◌, ◌+◌, ◌*◌, [], length, take, drop}
use Rattle.service_line.proofs.Digits.{going_on}
use Rattle.service_line.proofs.line.unhex.Given as goal

abbrev pub invariant-loop-i : goal.invariant-loop-i
invariant-loop-i l = (going_on (2 * l.i + 1) (take l.i l.buffer) (drop (2 * l.i) l.line) ≡ going_on 1 [] l.line) × (length l.buffer ≡ 32)
