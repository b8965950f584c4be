-- `push` keeps the byte where there is a place for it.
use Rattle.std.proofs.Common.{◌∙◌}
use Rattle.service_line.proofs.Cuts.{keeps_more, placed, unplaced}
use Rattle.service_line.proofs.received.Received.push.Goals as goal

pub returns-then-self-lt65 : goal.returns-then-self-lt65
returns-then-self-lt65 c =
    let line = c.self.inside in
    let front = placed line.bytes c.args.self.now line.len c.args.byte c.self.invariant.0 c.self.invariant.1 c.self.view_is c.if-self-lt65.true in
    record { front = front; more = λ text keeps. front ∙ keeps_more c.args.self.now text c.args.byte keeps }

pub returns-else-self-lt65 : goal.returns-else-self-lt65
returns-else-self-lt65 c =
    let line = c.self.inside in
    let front = unplaced line.bytes c.args.self.now line.len c.args.byte c.self.invariant.0 c.self.invariant.1 c.self.view_is c.if-self-lt65.false in
    record { front = front; more = λ text keeps. front ∙ keeps_more c.args.self.now text c.args.byte keeps }
