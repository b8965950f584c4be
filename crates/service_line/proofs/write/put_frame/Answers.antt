-- `put_frame` writes the body, then the check.
use Rattle.std.proofs.Common.{ℕ, ◌+◌, ◌*◌, ◌/◌, ◌%◌, ◌<◌, List, [], ◌∷◌, ◌++◌, length, set, refl, ap, ◌∙◌, arith}
use Rattle.service_line.specs.Formats.{over}
use Rattle.service_line.specs.Hex.{digit_of, text_of}
use Rattle.service_line.proofs.Texts.{length_frame, push_over}
use Rattle.service_line.proofs.write.put_frame.Goals as goal

pub returns : goal.returns
returns c =
    let body = c.args.body.now in
    let n : ℕ = length body in
    let x : ℕ = c.check_byte.result in
    let room : 2 * n + 1 < length c.args.line.now = omega arith in
    record {
      len = length_frame body;
      text = c.put_byte.ensures.digits
          ∙ ap (λ (l : List ℕ). set (set l (2 * n) (digit_of (x / 16))) (2 * n + 1) (digit_of (x % 16))) c.put_bytes.ensures.text
          ∙ push_over body c.args.line.now x n refl room
          ∙ ap (λ (b : ℕ). over (text_of (body ++ b ∷ [])) c.args.line.now) c.check_byte.ensures.check;
    }
