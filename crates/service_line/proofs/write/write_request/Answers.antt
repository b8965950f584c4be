-- `write_request` writes the frame of the request's body, and what it writes reads back.
use Rattle.std.proofs.Common.{◌≡◌, ℕ, List, refl, ap, ◌∙◌, rules}
use Rattle.service_line.specs.Formats.{Fitting, frame_of, over, request_body}
use Rattle.service_line.specs.Hex.{text_of}
use Rattle.service_line.proofs.ReadsBack.{front_reads_back}
use Rattle.service_line.proofs.write.write_request.Goals as goal

pub returns-in-Post-clause-text : goal.returns-in-Post-clause-text
returns-in-Post-clause-text c =
    let body : c.hour_body.result ≡ request_body c.args.request = search rules in
    c.put_frame.ensures.text ∙ ap (λ (b : List ℕ). over (text_of (frame_of b)) c.args.line.now) body

pub returns-in-Post-clause-reads_back : goal.returns-in-Post-clause-reads_back
returns-in-Post-clause-reads_back c =
    let body : c.hour_body.result ≡ request_body c.args.request = search rules in
    let written = c.put_frame in
    let fits : Fitting c.args.request = search rules in
    front_reads_back c.args.request fits c.hour_body.result c.args.line.now written.new.line written.result body written.ensures.len written.ensures.text

pub returns-in-Amend-clause-text : goal.returns-in-Amend-clause-text
returns-in-Amend-clause-text c =
    let body : c.hour_body-in-Amend.result ≡ request_body c.args.request = search rules in
    c.put_frame-in-Amend.ensures.text ∙ ap (λ (b : List ℕ). over (text_of (frame_of b)) c.args.line.now) body

pub returns-in-Amend-clause-reads_back : goal.returns-in-Amend-clause-reads_back
returns-in-Amend-clause-reads_back c =
    let body : c.hour_body-in-Amend.result ≡ request_body c.args.request = search rules in
    let written = c.put_frame-in-Amend in
    let fits : Fitting c.args.request = search rules in
    front_reads_back c.args.request fits c.hour_body-in-Amend.result c.args.line.now written.new.line written.result body written.ensures.len written.ensures.text

pub returns-in-Choose-clause-reads_back : goal.returns-in-Choose-clause-reads_back
returns-in-Choose-clause-reads_back c =
    let written = c.put_frame-in-Choose in
    let fits : Fitting c.args.request = search rules in
    front_reads_back c.args.request fits (request_body c.args.request) c.args.line.now written.new.line written.result refl (search rules) (search rules)

pub returns-in-Open-clause-reads_back : goal.returns-in-Open-clause-reads_back
returns-in-Open-clause-reads_back c =
    let written = c.put_frame-in-Open in
    let fits : Fitting c.args.request = search rules in
    front_reads_back c.args.request fits (request_body c.args.request) c.args.line.now written.new.line written.result refl (search rules) (search rules)

pub returns-in-Invoice-clause-reads_back : goal.returns-in-Invoice-clause-reads_back
returns-in-Invoice-clause-reads_back c =
    let written = c.put_frame-in-Invoice in
    let fits : Fitting c.args.request = search rules in
    front_reads_back c.args.request fits (request_body c.args.request) c.args.line.now written.new.line written.result refl (search rules) (search rules)
