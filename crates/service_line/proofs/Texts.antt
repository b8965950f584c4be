-- The text of bytes, and text written over the front of a buffer.
use Rattle.std.proofs.Common.{◌≡◌, ℕ, ◌+◌, ◌*◌, ◌/◌, ◌%◌, ◌<◌, ◌≤◌, List, [], ◌∷◌, ◌++◌, length, get_or, take, drop, set, sym, refl, ap, ◌∙◌, arith}
use Rattle.std.proofs.lemmas.List.{append_assoc, drop_more, length-append, length-drop, length_push, length-take-le, set_at, take_more}
use Rattle.service_line.specs.Formats.{check_of, frame_of, over}
use Rattle.service_line.specs.Hex.{digit_of, text_of}

-- the text of one byte more
abbrev pub one_more : List ℕ → ℕ → List ℕ
one_more text b = text ++ digit_of (b / 16) ∷ digit_of (b % 16) ∷ []

pub text_push : (bs : List ℕ) (b : ℕ) → text_of (bs ++ b ∷ []) ≡ one_more (text_of bs) b
text_push [] b = refl
text_push (x ∷ bs) b = ap (λ (t : List ℕ). digit_of (x / 16) ∷ digit_of (x % 16) ∷ t) (text_push bs b)

pub length_text : (bs : List ℕ) → length (text_of bs) ≡ 2 * length bs
length_text [] = refl
length_text (x ∷ bs) = let h : length (text_of bs) ≡ 2 * length bs = length_text bs in omega arith

-- a text that fits leaves the buffer as long as it was
pub length_over : (text buffer : List ℕ) → length text ≤ length buffer → length (over text buffer) ≡ length buffer
length_over text buffer le = simp (length-append, length-drop) (omega arith)

-- two digits behind a text that is written
pub two_over : (text buffer : List ℕ) (x y n : ℕ) → length text ≡ n → n + 1 < length buffer → set (set (over text buffer) n x) (n + 1) y ≡ over (text ++ x ∷ y ∷ []) buffer
two_over text buffer x y n len lt =
    let here : n < length buffer = omega arith in
    let two : n + 1 + 1 ≡ length (text ++ x ∷ y ∷ []) = simp length-append (omega arith) in
    let split : drop n buffer ≡ get_or buffer n 0 ∷ get_or buffer (n + 1) 0 ∷ drop (n + 1 + 1) buffer =
    drop_more buffer n 0 here ∙ ap (λ (r : List ℕ). get_or buffer n 0 ∷ r) (drop_more buffer (n + 1) 0 lt) in
    let behind : length (text ++ x ∷ []) ≡ n + 1 = simp length-append (omega arith) in
    let rest = drop (n + 1 + 1) buffer in
    ap (λ (m : ℕ). set (set (text ++ drop m buffer) n x) (n + 1) y) len
    ∙ ap (λ (r : List ℕ). set (set (text ++ r) n x) (n + 1) y) split
    ∙ ap (λ (l : List ℕ). set l (n + 1) y) (set_at text (get_or buffer n 0) (get_or buffer (n + 1) 0 ∷ rest) x n len)
    ∙ ap (λ (l : List ℕ). set l (n + 1) y) (sym (append_assoc text (x ∷ []) (get_or buffer (n + 1) 0 ∷ rest)))
    ∙ set_at (text ++ x ∷ []) (get_or buffer (n + 1) 0) rest y (n + 1) behind
    ∙ append_assoc text (x ∷ []) (y ∷ rest)
    ∙ sym (append_assoc text (x ∷ y ∷ []) rest)
    ∙ ap (λ (m : ℕ). (text ++ x ∷ y ∷ []) ++ drop m buffer) two

-- what the two digits of one byte more leave
pub push_over : (bs buffer : List ℕ) (b n : ℕ) → length bs ≡ n → 2 * n + 1 < length buffer
    → set (set (over (text_of bs) buffer) (2 * n) (digit_of (b / 16))) (2 * n + 1) (digit_of (b % 16)) ≡ over (text_of (bs ++ b ∷ [])) buffer
push_over bs buffer b n len room =
    two_over (text_of bs) buffer (digit_of (b / 16)) (digit_of (b % 16)) (2 * n) (length_text bs ∙ ap (λ (m : ℕ). 2 * m) len) room
    ∙ ap (λ (t : List ℕ). over t buffer) (sym (text_push bs b))

-- the same, where the byte is the next of a list
pub next_over : (bs buffer : List ℕ) (i : ℕ) → i < length bs → 2 * i + 1 < length buffer
    → set (set (over (text_of (take i bs)) buffer) (2 * i) (digit_of (get_or bs i 0 / 16))) (2 * i + 1) (digit_of (get_or bs i 0 % 16)) ≡ over (text_of (take (i + 1) bs)) buffer
next_over bs buffer i lt room =
    let le : i ≤ length bs = omega arith in
    push_over (take i bs) buffer (get_or bs i 0) i (length-take-le i bs le) room ∙ ap (λ (l : List ℕ). over (text_of l) buffer) (sym (take_more bs i 0 lt))

pub length_frame : (body : List ℕ) → 2 * length body + 2 ≡ length (text_of (frame_of body))
length_frame body =
    let len : length (frame_of body) ≡ length body + 1 = length_push body (check_of body) in
    let text : length (text_of (frame_of body)) ≡ 2 * length (frame_of body) = length_text (frame_of body) in
    omega arith
