-- What a line asks: refused by the line layer, then by the frame layer.
use Rattle.std.specs.Prelude.{ℕ, List, Ok, Err, Result}
use Rattle.refusals.specs.declared.Refusal.{Refusal}
use Rattle.refusals.specs.declared.Refusal.TheVariants.{Line, Frame}
use Rattle.refusals.specs.declared.line.LineRefusal.{LineRefusal}
use Rattle.refusals.specs.declared.frame.FrameRefusal.{FrameRefusal}
use Rattle.service_line.specs.Lines.{carried}
use Rattle.service_line.specs.Frames.{decoded}
use Rattle.service_line.specs.declared.request.Request.{Request}

abbrev pub by_frame : Result Request FrameRefusal → Result Request Refusal
by_frame (Ok request) = Ok request
by_frame (Err e) = Err (Frame e)

abbrev pub by_line : Result (List ℕ) LineRefusal → Result Request Refusal
by_line (Ok frame) = by_frame (decoded frame)
by_line (Err e) = Err (Line e)

abbrev pub reading : List ℕ → Result Request Refusal
reading text = by_line (carried text)
