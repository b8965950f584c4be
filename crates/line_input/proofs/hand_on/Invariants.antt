-- What was taken in so far is the front of the chunk.
use Rattle.std.proofs.Common.{take}
use Rattle.std.specs.List.{FoldsTo}
use Rattle.line_input.specs.Taken.{Takes}
use Rattle.line_input.proofs.hand_on.Given as goal

abbrev pub invariant-loop-byte : goal.invariant-loop-byte
invariant-loop-byte g l =
    FoldsTo (Takes g.L.Lines.pushes g.L.Lines.ends) l.initial.lines (take l.byte-index l.chunk) l.lines
