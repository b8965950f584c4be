-- The text that was read so far was taken in, and its last byte is kept; the chunk keeps its size.
use Rattle.std.proofs.Common.{◌≡◌, ℕ, List, length}
use Rattle.std.specs.List.{FoldsTo}
use Rattle.std.specs.Io.KnownBytes.{Consumes}
use Rattle.line_input.specs.Taken.{Takes, last_byte}
use Rattle.line_input.proofs.read_lines.Given as goal

abbrev pub invariant-loop : goal.invariant-loop
invariant-loop g l =
    ((text : List ℕ) × Consumes (g.R.Read.remaining l.initial.input) (g.R.Read.remaining l.input) text
    × FoldsTo (Takes g.L.Lines.pushes g.L.Lines.ends) l.initial.lines text l.lines × (l.last ≡ last_byte text))
    × (length l.chunk ≡ 4096)
