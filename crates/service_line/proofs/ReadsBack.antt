-- A request that is written reads back as itself.
use Rattle.std.proofs.Common.{◌≡◌, ℕ, Bool, false, cond, List, length, take, drop, sym, Ok, Err, refl, ap, ◌∙◌, ap₂, arith}
use Rattle.std.proofs.lemmas.List.{take_at}
use Rattle.refusals.specs.declared.line.LineRefusal.TheVariants.{Length}
use Rattle.service_line.specs.Formats.{Fitting, frame_of, over, request_body, request_line}
use Rattle.service_line.specs.Frames.{asked, decoded, if_checked}
use Rattle.service_line.specs.Hex.{text_of}
use Rattle.service_line.specs.Lines.{bytes_of, carried, first_stranger, ill_sized, unless_stranger}
use Rattle.service_line.specs.Reading.{by_frame, by_line, reading}
use Rattle.service_line.specs.declared.request.Request.{Request}
use Rattle.service_line.specs.declared.request.Request.TheVariants as request
use Rattle.service_line.proofs.Checks.{closed}
use Rattle.service_line.proofs.Fields.{read_back2, signed_back2}
use Rattle.service_line.proofs.Hexes.{Bytes, bytes_read, no_stranger_in}

-- the frame of a request has bytes, and a line's length
small : (q : Request) → Fitting q → Bytes (frame_of (request_body q))
small (request.Post h a r) f = (omega arith, (omega arith, (omega arith, (omega arith, (omega arith, (omega arith, (omega arith, (omega arith, tt))))))))
small (request.Amend h a r) f = (omega arith, (omega arith, (omega arith, (omega arith, (omega arith, (omega arith, (omega arith, (omega arith, tt))))))))
small (request.Choose c p w i) f = (omega arith, (omega arith, (omega arith, (omega arith, (omega arith, (omega arith, (omega arith, (omega arith, (omega arith, tt)))))))))
small (request.Open y a n) f = (omega arith, (omega arith, (omega arith, (omega arith, (omega arith, (omega arith, tt))))))
small request.Advise f = (omega arith, (omega arith, tt))
small (request.Invoice n) f = (omega arith, (omega arith, (omega arith, tt)))

sized : (q : Request) → ill_sized (length (request_line q)) ≡ false
sized (request.Post h a r) = refl
sized (request.Amend h a r) = refl
sized (request.Choose c p w i) = refl
sized (request.Open y a n) = refl
sized request.Advise = refl
sized (request.Invoice n) = refl

-- its fields are those of the request
fields_read : (q : Request) → Fitting q → asked (frame_of (request_body q)) ≡ Ok q
fields_read (request.Post h a r) f = let eh = read_back2 h f.0 in let ea = signed_back2 a f.1 in let er = signed_back2 r f.2 in cc
fields_read (request.Amend h a r) f = let eh = read_back2 h f.0 in let ea = signed_back2 a f.1 in let er = signed_back2 r f.2 in cc
fields_read (request.Choose c p w i) f = let ep = read_back2 p f.1 in let ew = read_back2 w f.2 in let ei = read_back2 i f.3 in cc
fields_read (request.Open y a n) f = let ey = read_back2 y f.0 in cc
fields_read request.Advise f = refl
fields_read (request.Invoice n) f = refl

frame_read : (q : Request) → Fitting q → decoded (frame_of (request_body q)) ≡ Ok q
frame_read q f =
    ap₂ if_checked (closed (request_body q)) (fields_read q f)

line_read : (q : Request) → Fitting q → carried (request_line q) ≡ Ok (frame_of (request_body q))
line_read q f =
    let frame = frame_of (request_body q) in
    ap (λ (b : Bool). cond b (Err Length) (unless_stranger (first_stranger 1 (request_line q)) (bytes_of (request_line q)))) (sized q)
    ∙ ap₂ unless_stranger (no_stranger_in 1 frame (small q f)) (bytes_read frame (small q f))

pub reads_back : (q : Request) → Fitting q → reading (request_line q) ≡ Ok q
reads_back q f = ap by_line (line_read q f) ∙ ap by_frame (frame_read q f)

-- the same, of the front of a buffer that the line is written over
pub front_reads_back : (q : Request) → Fitting q → (body before after : List ℕ) (n : ℕ) → body ≡ request_body q
    → n ≡ length (text_of (frame_of body)) → after ≡ over (text_of (frame_of body)) before → reading (take n after) ≡ Ok q
front_reads_back q f body before after n is len text =
    let line : text_of (frame_of body) ≡ request_line q = ap (λ (b : List ℕ). text_of (frame_of b)) is in
    ap (λ (l : List ℕ). reading (take n l)) text
    ∙ ap reading (take_at (text_of (frame_of body)) (drop (length (text_of (frame_of body))) before) n (sym len) ∙ line)
    ∙ reads_back q f
