-- `sum` adds up the bytes, and wraps at each.
use Rattle.std.proofs.Common.{◌≡◌, ◌+◌, ◌%◌, arith, rules}
use Rattle.std.proofs.iter.runs.Made.{chains}
use Rattle.std.specs.List.{fold}
use Rattle.service_line.proofs.Checks.{wrapped_sum}
use Rattle.service_line.proofs.frame.sum.Goals as goal

pub returns : goal.returns
returns c =
    let wrapped : c.fold.result ≡ fold (λ sum b. (sum + b) % 256) 0 c.args.bytes.now = search (rules, chains) in
    let summed = wrapped_sum 0 c.args.bytes.now (omega arith) in
    record { sum = omega arith }
