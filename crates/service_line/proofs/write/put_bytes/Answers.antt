-- `put_bytes` writes one byte a turn.
use Rattle.std.proofs.Common.{ℕ, ◌+◌, ◌*◌, ◌/◌, ◌%◌, ◌<◌, List, length, get_or, set, ap, ◌∙◌, arith}
use Rattle.service_line.specs.Hex.{digit_of}
use Rattle.service_line.proofs.Texts.{next_over}
use Rattle.service_line.proofs.write.put_bytes.Goals as goal

pub loop-i-preserved : goal.loop-i-preserved
loop-i-preserved c =
    let bs = c.args.bytes.now in
    let i : ℕ = c.loop-i.i in
    let lt : i < length bs = omega arith in
    let room : 2 * i + 1 < length c.args.line.now = omega arith in
    c.put_byte.ensures.digits
    ∙ ap (λ (l : List ℕ). set (set l (2 * i) (digit_of (get_or bs i 0 / 16))) (2 * i + 1) (digit_of (get_or bs i 0 % 16))) c.loop-i.invariant
    ∙ next_over bs c.args.line.now i lt room
