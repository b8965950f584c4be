-- A line that is read is the line that would be written.
use Rattle.std.proofs.Common.{◌≡◌, ℕ, zero, suc, ◌+◌, ◌-◌, ◌%◌, ◌<◌, Bool, true, false, cond, eqb, List, [], ◌∷◌, ◌++◌, length, get_or, Some, None, Ok, Err, Option, Result, sym, refl, ap, ◌∙◌, arith, eqb-true}
use Rattle.std.proofs.lemmas.Bool.Decides.{nat_tests}
use Rattle.refusals.specs.declared.frame.FrameRefusal.{FrameRefusal}
use Rattle.refusals.specs.declared.frame.FrameRefusal.TheVariants as refused
use Rattle.refusals.specs.declared.line.LineRefusal.{LineRefusal}
use Rattle.refusals.specs.declared.line.LineRefusal.TheVariants.{Length}
use Rattle.service_line.specs.Formats.{field2, frame_of, request_body, request_line, signed2, sum_of}
use Rattle.service_line.specs.Frames.{advise, amend, asked, asked_as, byte, choose, decoded, fields_of, if_checked, invoice, Kind, kind_of, opening, post, signed, size_of, unsigned}
use Rattle.service_line.specs.Hex.{text_of}
use Rattle.service_line.specs.Lines.{bytes_of, carried, first_stranger, ill_sized, unless_stranger}
use Rattle.service_line.specs.Reading.{by_frame, by_line, reading}
use Rattle.service_line.specs.declared.request.Request.{Request}
use Rattle.service_line.proofs.Checks.{closed_by}
use Rattle.service_line.proofs.Digits.{sized}
use Rattle.service_line.proofs.Fields.{signed_written_back2, written_back2}
use Rattle.service_line.proofs.Hexes.{carries_bytes, text_written}

-- a list, by what stands at each of its places
abbrev spelled : ℕ → (ℕ → ℕ) → List ℕ
spelled zero at = []
spelled (suc n) at = at 0 ∷ spelled n (λ i. at (suc i))

spells : (xs : List ℕ) → spelled (length xs) (λ i. get_or xs i 0) ≡ xs
spells [] = refl
spells (x ∷ xs) = ap (λ (l : List ℕ). x ∷ l) (spells xs)

-- the byte of each kind
abbrev code_of : Kind → ℕ
code_of post = 1
code_of amend = 2
code_of choose = 3
code_of opening = 4
code_of advise = 5
code_of invoice = 6

coded : (b : ℕ) (kind : Kind) → kind_of b ≡ Some kind → b ≡ code_of kind
coded b post e = grind (arith, nat_tests)
coded b amend e = grind (arith, nat_tests)
coded b choose e = grind (arith, nat_tests)
coded b opening e = grind (arith, nat_tests)
coded b advise e = grind (arith, nat_tests)
coded b invoice e = grind (arith, nat_tests)

module _ (frame : List ℕ) (small : (i : ℕ) → byte frame i < 256) where
  unsigned_at : (i : ℕ) → field2 (unsigned frame i) ≡ byte frame i ∷ byte frame (i + 1) ∷ []
  unsigned_at i = written_back2 (byte frame i) (byte frame (i + 1)) (small i) (small (i + 1))

  signed_at : (i : ℕ) → signed2 (signed frame i) ≡ byte frame i ∷ byte frame (i + 1) ∷ []
  signed_at i = signed_written_back2 (byte frame i) (byte frame (i + 1)) (small i) (small (i + 1))

  -- what the fields of a kind are written as: the frame without its check
  body_written : (kind : Kind) → byte frame 0 ≡ code_of kind → request_body (fields_of kind frame) ≡ spelled (size_of kind - 1) (byte frame)
  body_written post e = let h = unsigned_at 1 in let a = signed_at 3 in let r = signed_at 5 in cc
  body_written amend e = let h = unsigned_at 1 in let a = signed_at 3 in let r = signed_at 5 in cc
  body_written choose e = let p = unsigned_at 2 in let w = unsigned_at 4 in let i = unsigned_at 6 in cc
  body_written opening e = let y = unsigned_at 1 in cc
  body_written advise e = cc
  body_written invoice e = cc

  whole : (kind : Kind) → spelled (size_of kind) (byte frame) ≡ spelled (size_of kind - 1) (byte frame) ++ byte frame (size_of kind - 1) ∷ []
  whole post = refl
  whole amend = refl
  whole choose = refl
  whole opening = refl
  whole advise = refl
  whole invoice = refl

  frame_written : (kind : Kind) → byte frame 0 ≡ code_of kind → length frame ≡ size_of kind → sum_of frame % 256 ≡ 0
      → frame_of (request_body (fields_of kind frame)) ≡ frame
  frame_written kind e size sum =
      let n = size_of kind - 1 in
      let split : frame ≡ spelled n (byte frame) ++ byte frame n ∷ [] = sym (spells frame) ∙ ap (λ (m : ℕ). spelled m (byte frame)) size ∙ whole kind in
      ap frame_of (body_written kind e)
      ∙ closed_by (spelled n (byte frame)) (byte frame n) (small n) (ap (λ (l : List ℕ). sum_of l % 256) (sym split) ∙ sum)
      ∙ sym split

-- what a frame that asks something has passed: its kind, its length and its check
asked_told : (found : Option Kind) (frame : List ℕ) (q : Request) → asked_as found frame ≡ Ok q
    → (kind : Kind) × (found ≡ Some kind) × (length frame ≡ size_of kind) × (fields_of kind frame ≡ q)
asked_told None frame q e = let z : ◌≡◌ {A = ℕ} 0 1 = cc in absurd (omega arith)
asked_told (Some kind) frame q e = by (eqb (length frame) (size_of kind)) refl e
  where
    by : (b : Bool) → eqb (length frame) (size_of kind) ≡ b → cond b (Ok (fields_of kind frame)) (Err (refused.Length (length frame))) ≡ Ok q
        → (k : Kind) × (Some kind ≡ Some k) × (length frame ≡ size_of k) × (fields_of k frame ≡ q)
    by true h e = (kind, refl, eqb-true (length frame) (size_of kind) h, cc)
    by false h e = let z : ◌≡◌ {A = ℕ} 0 1 = cc in absurd (omega arith)

checked_told : (left : ℕ) (r : Result Request FrameRefusal) (q : Request) → if_checked left r ≡ Ok q → (left ≡ 0) × (r ≡ Ok q)
checked_told left (Err e) q p = let z : ◌≡◌ {A = ℕ} 0 1 = cc in absurd (omega arith)
checked_told left (Ok r) q p = let t = by (eqb left 0) refl p in (t.0, ap Ok t.1)
  where
    by : (b : Bool) → eqb left 0 ≡ b → cond b (Ok r) (Err (refused.Check left)) ≡ Ok q → (left ≡ 0) × (r ≡ q)
    by true h e = (eqb-true left 0 h, cc)
    by false h e = let z : ◌≡◌ {A = ℕ} 0 1 = cc in absurd (omega arith)

decoded_written : (frame : List ℕ) (q : Request) → ((i : ℕ) → byte frame i < 256) → decoded frame ≡ Ok q → frame_of (request_body q) ≡ frame
decoded_written frame q small e =
    let c = checked_told (sum_of frame % 256) (asked frame) q e in
    let t = asked_told (kind_of (byte frame 0)) frame q c.1 in
    ap (λ (r : Request). frame_of (request_body r)) (sym t.3) ∙ frame_written frame small t.0 (coded (byte frame 0) t.0 t.1) t.2 c.0

-- what a line that carries a frame has passed: its length and its characters
stranger_told : (found : Option ℕ) (bytes frame : List ℕ) → unless_stranger found bytes ≡ Ok frame → (found ≡ None) × (bytes ≡ frame)
stranger_told None bytes frame e = (refl, cc)
stranger_told (Some k) bytes frame e = let z : ◌≡◌ {A = ℕ} 0 1 = cc in absurd (omega arith)

carried_told : (text frame : List ℕ) → carried text ≡ Ok frame → (length text % 2 ≡ 0) × (first_stranger 1 text ≡ None) × (bytes_of text ≡ frame)
carried_told text frame e = by (ill_sized (length text)) refl e
  where
    by : (b : Bool) → b ≡ ill_sized (length text) → cond b (Err Length) (unless_stranger (first_stranger 1 text) (bytes_of text)) ≡ Ok frame
        → (length text % 2 ≡ 0) × (first_stranger 1 text ≡ None) × (bytes_of text ≡ frame)
    by true h e = let z : ◌≡◌ {A = ℕ} 0 1 = cc in absurd (omega arith)
    by false h e = let t = stranger_told (first_stranger 1 text) (bytes_of text) frame e in ((sized (length text) h).2, t.0, t.1)

frame_told : (r : Result Request FrameRefusal) (q : Request) → by_frame r ≡ Ok q → r ≡ Ok q
frame_told (Ok r) q e = let same : r ≡ q = cc in ap Ok same
frame_told (Err f) q e = let z : ◌≡◌ {A = ℕ} 0 1 = cc in absurd (omega arith)

line_told : (r : Result (List ℕ) LineRefusal) (q : Request) → by_line r ≡ Ok q → (frame : List ℕ) × (r ≡ Ok frame) × (decoded frame ≡ Ok q)
line_told (Ok frame) q e = (frame, refl, frame_told (decoded frame) q e)
line_told (Err f) q e = let z : ◌≡◌ {A = ℕ} 0 1 = cc in absurd (omega arith)

pub written_back : (text : List ℕ) (q : Request) → reading text ≡ Ok q → request_line q ≡ text
written_back text q e =
    let l = line_told (carried text) q e in
    let c = carried_told text l.0 l.1 in
    let frame : bytes_of text ≡ l.0 = c.2 in
    ap text_of (decoded_written (bytes_of text) q (carries_bytes text) (ap decoded frame ∙ l.2)) ∙ text_written 1 text c.0 c.1
