-- `read` answers what the whole line asks: its front tells.
use Rattle.std.proofs.Common.{ap, ◌∙◌}
use Rattle.service_line.specs.Reading.{reading}
use Rattle.service_line.proofs.Cuts.{cut_alike}
use Rattle.service_line.proofs.received.Received.read.Goals as goal

pub returns : goal.returns
returns c = record { answers = λ text keeps. c.read_line.ensures.answers ∙ ap reading (c.front.ensures.front ∙ keeps) ∙ cut_alike text }
