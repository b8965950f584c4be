-- The words of a frame's refusal: a kind is printed as two digits.
use Rattle.refusals.proofs.frame.FrameRefusalDisplay.fmt.Goals as goal

pub returns-in-Kind-clause-writes : goal.returns-in-Kind-clause-writes
returns-in-Kind-clause-writes g c = rw c.in-Kind.is (rw (c.laid_out.ensures, c.in_radix.ensures) at c.write.ensures.writes)

pub returns-in-Check-clause-writes : goal.returns-in-Check-clause-writes
returns-in-Check-clause-writes g c = rw c.in-Check.is c.write-in-Check.ensures.writes
