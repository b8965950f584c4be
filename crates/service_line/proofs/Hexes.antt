-- Bytes as text and back: the text of bytes carries them, and text that carries bytes is theirs.
use Rattle.std.proofs.Common.{◌≡◌, ℕ, zero, suc, ◌+◌, ◌*◌, ◌/◌, ◌%◌, ◌<◌, Bool, true, false, cond, List, [], ◌∷◌, length, get_or, is_some, Some, None, Option, unwrap_or, refl, ap, ◌∙◌, arith}
use Rattle.std.proofs.lemmas.Bool.Decides.{nat_tests}
use Rattle.service_line.specs.Hex.{digit_of, text_of, value_of}
use Rattle.service_line.specs.Lines.{bytes_of, first_stranger}

digit_read : (v : ℕ) → v < 16 → value_of (digit_of v) ≡ Some v
digit_read v small = grind (arith, nat_tests)

digit_written : (c v : ℕ) → value_of c ≡ Some v → digit_of v ≡ c
digit_written c v e = grind (arith, nat_tests)

digit_small : (c v : ℕ) → value_of c ≡ Some v → v < 16
digit_small c v e = grind (arith, nat_tests)

-- the numbers of a list are bytes
abbrev pub Bytes : List ℕ → Type 0
Bytes [] = Unit {0}
Bytes (b ∷ bs) = (b < 256) × Bytes bs

-- the value of a digit, or 0 for a stranger
abbrev value : ℕ → ℕ
value c = unwrap_or (value_of c) 0

pub no_stranger_in : (column : ℕ) (bs : List ℕ) → Bytes bs → first_stranger column (text_of bs) ≡ None
no_stranger_in column [] small = refl
no_stranger_in column (b ∷ bs) small =
    let high : value_of (digit_of (b / 16)) ≡ Some (b / 16) = digit_read (b / 16) (omega arith) in
    let low : value_of (digit_of (b % 16)) ≡ Some (b % 16) = digit_read (b % 16) (omega arith) in
    ap (λ (v : Option ℕ). cond (is_some v) (first_stranger (column + 1) (digit_of (b % 16) ∷ text_of bs)) (Some column)) high
    ∙ ap (λ (v : Option ℕ). cond (is_some v) (first_stranger (column + 1 + 1) (text_of bs)) (Some (column + 1))) low
    ∙ no_stranger_in (column + 1 + 1) bs small.1

pub bytes_read : (bs : List ℕ) → Bytes bs → bytes_of (text_of bs) ≡ bs
bytes_read [] small = refl
bytes_read (b ∷ bs) small =
    let high : value (digit_of (b / 16)) ≡ b / 16 = ap (λ (v : Option ℕ). unwrap_or v 0) (digit_read (b / 16) (omega arith)) in
    let low : value (digit_of (b % 16)) ≡ b % 16 = ap (λ (v : Option ℕ). unwrap_or v 0) (digit_read (b % 16) (omega arith)) in
    let byte : value (digit_of (b / 16)) * 16 + value (digit_of (b % 16)) ≡ b = omega arith in
    ap (λ (x : ℕ). x ∷ bytes_of (text_of bs)) byte ∙ ap (λ (l : List ℕ). b ∷ l) (bytes_read bs small.1)

value_small : (c : ℕ) → value c < 16
value_small c = by (value_of c) refl
  where
    by : (v : Option ℕ) → value_of c ≡ v → unwrap_or v 0 < 16
    by (Some v) e = digit_small c v e
    by None e = omega arith

-- what a line carries are bytes, whatever its characters
pub carries_bytes : (text : List ℕ) (i : ℕ) → get_or (bytes_of text) i 0 < 256
carries_bytes [] i = omega arith
carries_bytes (c ∷ []) i = omega arith
carries_bytes (high ∷ low ∷ rest) zero = let h = value_small high in let l = value_small low in omega arith
carries_bytes (high ∷ low ∷ rest) (suc i) = carries_bytes rest i

value_written : (c : ℕ) → is_some (value_of c) ≡ true → digit_of (value c) ≡ c
value_written c = by (value_of c) refl
  where
    by : (v : Option ℕ) → value_of c ≡ v → is_some v ≡ true → digit_of (unwrap_or v 0) ≡ c
    by (Some v) e is = digit_written c v e
    by None e is = let z : ◌≡◌ {A = ℕ} 0 1 = cc in absurd (omega arith)

-- no stranger in a text is none at its front, and none behind
none_split : (found : Bool) (column : ℕ) (later : Option ℕ) → cond found later (Some column) ≡ None → (found ≡ true) × (later ≡ None)
none_split true column later e = (refl, e)
none_split false column later e = let z : ◌≡◌ {A = ℕ} 0 1 = cc in absurd (omega arith)

pub text_written : (column : ℕ) (text : List ℕ) → length text % 2 ≡ 0 → first_stranger column text ≡ None → text_of (bytes_of text) ≡ text
text_written column [] even none = refl
text_written column (c ∷ []) even none = absurd (omega arith)
text_written column (high ∷ low ∷ rest) even none =
    let a = none_split (is_some (value_of high)) column _ none in
    let b = none_split (is_some (value_of low)) (column + 1) _ a.1 in
    let even' : length rest % 2 ≡ 0 = omega arith in
    let h = value_small high in
    let l = value_small low in
    let eh : (value high * 16 + value low) / 16 ≡ value high = omega arith in
    let el : (value high * 16 + value low) % 16 ≡ value low = omega arith in
    ap (λ (c : ℕ). c ∷ digit_of ((value high * 16 + value low) % 16) ∷ text_of (bytes_of rest)) (ap digit_of eh ∙ value_written high a.0)
    ∙ ap (λ (c : ℕ). high ∷ c ∷ text_of (bytes_of rest)) (ap digit_of el ∙ value_written low b.0)
    ∙ ap (λ (t : List ℕ). high ∷ low ∷ t) (text_written (column + 1 + 1) rest even' b.1)
