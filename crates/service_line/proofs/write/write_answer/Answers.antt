-- `write_answer` writes the frame of the answer's body, which its check closes.
use Rattle.std.proofs.Common.{◌≡◌, ℕ, List, ap, ◌∙◌, rules}
use Rattle.service_line.specs.Formats.{answer_body, frame_of, over}
use Rattle.service_line.specs.Hex.{text_of}
use Rattle.service_line.proofs.Checks.{closed}
use Rattle.service_line.proofs.write.write_answer.Goals as goal

pub returns-in-Advice-clause-text : goal.returns-in-Advice-clause-text
returns-in-Advice-clause-text c =
    let body : c.advice_body.result ≡ answer_body c.args.answer = search rules in
    c.put_frame-in-Advice.ensures.text ∙ ap (λ (b : List ℕ). over (text_of (frame_of b)) c.args.line.now) body

pub returns-in-Invoice-clause-checked : goal.returns-in-Invoice-clause-checked
returns-in-Invoice-clause-checked c = closed (answer_body c.args.answer)
