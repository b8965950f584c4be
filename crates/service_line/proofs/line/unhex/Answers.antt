-- `unhex` reads a byte a turn, or refuses the line for the first stranger.
use Rattle.std.proofs.Common.{ℕ, ◌/◌, ◌<◌, List, length, take, Err, sym, ap, ◌∙◌, arith}
use Rattle.std.proofs.lemmas.List.{length-set, take_more_set}
use Rattle.std.proofs.lemmas.Result.{err_from_is_err_and}
use Rattle.service_line.proofs.Digits.{fitting, sized, turn_read, turn_refused}
use Rattle.service_line.proofs.line.unhex.Goals as goal

pub returns-in_err-buffer-clause-bytes : goal.returns-in_err-buffer-clause-bytes
returns-in_err-buffer-clause-bytes c =
    let text = c.args.line.now in
    let i : ℕ = c.loop-i.i in
    let more : i < length text / 2 = omega arith in
    let p = err_from_is_err_and c.from_residual.result c.from_residual.ensures.1 in
    let refused = turn_refused text c.as_chunks.result.0.now i c.as_chunks.ensures.front more (take i c.loop-i.buffer) c.in_err-buffer.field-0.0 c.in_err-buffer.ensures.value in
    rw p.1 (sym (fitting text c.if-ill_sized.ensures.sized) ∙ sym c.loop-i.invariant.0 ∙ refused ∙ ap Err (sym p.2))

pub loop-i-preserved : goal.loop-i-preserved
loop-i-preserved c =
    let text = c.args.line.now in
    let i : ℕ = c.loop-i.i in
    let buffer : List ℕ = c.loop-i.buffer in
    let size = sized (length text) c.if-ill_sized.ensures.sized in
    let more : i < length text / 2 = omega arith in
    let small : i < length buffer = omega arith in
    let b = c.in_ok-buffer.field-0 in (
      rw (take_more_set buffer i b small) (turn_read text c.as_chunks.result.0.now i c.as_chunks.ensures.front more (take i buffer) b c.in_ok-buffer.ensures.value) ∙ c.loop-i.invariant.0,
      simp length-set c.loop-i.invariant.1,
    )
