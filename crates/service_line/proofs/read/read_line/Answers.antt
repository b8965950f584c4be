-- What `read_line` answers is written as the line that it read.
use Rattle.std.proofs.Common.{sym, ap, ◌∙◌}
use Rattle.service_line.specs.Reading.{by_frame, by_line}
use Rattle.service_line.proofs.WrittenBack.{written_back}
use Rattle.service_line.proofs.read.read_line.Goals as goal

pub returns-clause-written_back : goal.returns-clause-written_back
returns-clause-written_back c =
    written_back c.args.line.now c.in_ok-request.request (ap by_line c.in_ok-frame.ensures.bytes ∙ ap by_frame (sym c.in_ok-request.ensures.asks))
