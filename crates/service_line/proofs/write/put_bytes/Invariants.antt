-- The text of the bytes so far stands over the front of the line as it was.
use Rattle.std.proofs.Common.{◌≡◌, take}
use Rattle.service_line.specs.Formats.{over}
use Rattle.service_line.specs.Hex.{text_of}
use Rattle.service_line.proofs.write.put_bytes.Given as goal

abbrev pub invariant-loop-i : goal.invariant-loop-i
invariant-loop-i l = l.line ≡ over (text_of (take l.i l.bytes)) l.initial.line
