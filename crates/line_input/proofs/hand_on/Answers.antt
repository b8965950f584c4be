-- One byte more is taken in.
use Rattle.std.proofs.Common.{get_or}
use Rattle.line_input.proofs.Steps.{takes-newline, takes-byte, takes-more}
use Rattle.line_input.proofs.hand_on.Goals.{then-byte-eq10+in_ok-end_line, else-byte-eq10+in_ok-push}
use Rattle.line_input.proofs.hand_on.Goals as goal

pub loop-byte-preserved : goal.loop-byte-preserved
loop-byte-preserved g c =
    let more = takes-more g.L.Lines.pushes g.L.Lines.ends c.args.lines.now c.loop-byte.lines c.if-byte-eq10.lines c.args.chunk.now c.loop-byte.byte-index c.loop-byte-test.true c.loop-byte.invariant in
    let byte = get_or c.args.chunk.now c.loop-byte.byte-index 0 in
    elim c.if-byte-eq10.branch [
      | then-byte-eq10+in_ok-end_line w ↦ more (takes-newline g.L.Lines.pushes g.L.Lines.ends c.loop-byte.lines c.if-byte-eq10.lines byte w.if-byte-eq10.true (rw w.lines-is (w.in_ok-end_line.ensures)))
      | else-byte-eq10+in_ok-push w ↦ more (takes-byte g.L.Lines.pushes g.L.Lines.ends c.loop-byte.lines c.if-byte-eq10.lines byte w.if-byte-eq10.false (rw w.lines-is (w.in_ok-push.ensures)))
    ]
