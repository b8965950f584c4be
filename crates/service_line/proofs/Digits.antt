-- A line's characters two by two: what one turn of the loop that reads them shows.
use Rattle.std.proofs.Common.{◌≡◌, ℕ, zero, suc, ◌+◌, ◌*◌, ◌/◌, ◌%◌, ◌<◌, ◌≤◌, Bool, false, cond, List, [], ◌∷◌, ◌++◌, length, get_or, drop, is_some, Some, None, Ok, Err, Option, Result, unwrap_or, sym, refl, ap, ◌∙◌, arith}
use Rattle.std.specs.Option.{ok_or}
use Rattle.std.specs.Simd.{first_chunks}
use Rattle.std.proofs.lemmas.List.{append_assoc}
use Rattle.std.proofs.lemmas.Bool.Decides.{nat_tests}
use Rattle.refusals.specs.declared.line.LineRefusal.{LineRefusal}
use Rattle.refusals.specs.declared.line.LineRefusal.TheVariants.{Digit, Length}
use Rattle.service_line.specs.Hex.{value_of}
use Rattle.service_line.specs.Lines.{bytes_of, carried, first_stranger, ill_sized, unless_stranger}
use Rattle.service_line.specs.Parts.{both, byte_at}

-- what a line carries that is read as far as these bytes, and goes on so from this column
abbrev pub going_on : ℕ → List ℕ → List ℕ → Result (List ℕ) LineRefusal
going_on column front rest = unless_stranger (first_stranger column rest) (front ++ bytes_of rest)

-- the same, where the next two characters have these values
abbrev next_two : ℕ → List ℕ → Option ℕ → Option ℕ → List ℕ → Result (List ℕ) LineRefusal
next_two column front high low rest =
    unless_stranger (cond (is_some high) (cond (is_some low) (first_stranger (column + 1 + 1) rest) (Some (column + 1))) (Some column))
    (front ++ (unwrap_or high 0 * 16 + unwrap_or low 0) ∷ bytes_of rest)

two_read : (column b : ℕ) (front : List ℕ) (high low : Option ℕ) (rest : List ℕ) → Ok b ≡ both (ok_or high (Digit column)) (ok_or low (Digit (column + 1)))
    → going_on (column + 1 + 1) (front ++ b ∷ []) rest ≡ next_two column front high low rest
two_read column b front (Some h) (Some l) rest e =
    let same : b ≡ h * 16 + l = cc in
    ap (unless_stranger (first_stranger (column + 1 + 1) rest)) (append_assoc front (b ∷ []) (bytes_of rest) ∙ ap (λ (v : ℕ). front ++ v ∷ bytes_of rest) same)
two_read column b front (Some h) None rest e = let z : ◌≡◌ {A = ℕ} 0 1 = cc in absurd (omega arith)
two_read column b front None low rest e = let z : ◌≡◌ {A = ℕ} 0 1 = cc in absurd (omega arith)

two_refused : (column : ℕ) (e : LineRefusal) (front : List ℕ) (high low : Option ℕ) (rest : List ℕ) → Err e ≡ both (ok_or high (Digit column)) (ok_or low (Digit (column + 1)))
    → next_two column front high low rest ≡ Err e
two_refused column e front (Some h) (Some l) rest p = let z : ◌≡◌ {A = ℕ} 0 1 = cc in absurd (omega arith)
two_refused column e front (Some h) None rest p = let v : Digit (column + 1) ≡ e = cc in ap Err v
two_refused column e front None low rest p = let v : Digit column ≡ e = cc in ap Err v

-- the next two characters are those of the next pair
two_next : (text : List ℕ) (k i : ℕ) → 2 * k ≤ length text → i < k
    → drop (2 * i) text ≡ get_or (get_or (first_chunks 2 k text) i []) 0 0 ∷ get_or (get_or (first_chunks 2 k text) i []) 1 0 ∷ drop (2 * (i + 1)) text
two_next text zero i room lt = absurd (omega arith)
two_next [] (suc k) i room lt = absurd (omega arith)
two_next (x ∷ []) (suc k) i room lt = absurd (omega arith)
two_next (x ∷ y ∷ rest) (suc k) zero room lt = refl
two_next (x ∷ y ∷ rest) (suc k) (suc i) room lt =
    let here : 2 * suc i ≡ suc (suc (2 * i)) = omega arith in
    let behind : 2 * (suc i + 1) ≡ suc (suc (2 * (i + 1))) = omega arith in
    rw (here, behind) (two_next rest k i (omega arith) (omega arith))

module _ (text : List ℕ) (pairs : List (List ℕ)) (i : ℕ) (cut : pairs ≡ first_chunks 2 (length text / 2) text) (more : i < length text / 2) (front : List ℕ) where
  next : going_on (2 * i + 1) front (drop (2 * i) text) ≡ next_two (2 * i + 1) front (value_of (get_or (get_or pairs i []) 0 0)) (value_of (get_or (get_or pairs i []) 1 0)) (drop (2 * (i + 1)) text)
  next = rw cut (ap (going_on (2 * i + 1) front) (two_next text (length text / 2) i (omega arith) more))

  -- a turn that reads a byte
  pub turn_read : (b : ℕ) → Ok b ≡ byte_at (2 * i + 1) (get_or (get_or pairs i []) 0 0) (get_or (get_or pairs i []) 1 0)
      → going_on (2 * (i + 1) + 1) (front ++ b ∷ []) (drop (2 * (i + 1)) text) ≡ going_on (2 * i + 1) front (drop (2 * i) text)
  unfolding byte_at
  turn_read b e =
      let column : 2 * (i + 1) + 1 ≡ 2 * i + 1 + 1 + 1 = omega arith in
      ap (λ (k : ℕ). going_on k (front ++ b ∷ []) (drop (2 * (i + 1)) text)) column
      ∙ two_read (2 * i + 1) b front (value_of (get_or (get_or pairs i []) 0 0)) (value_of (get_or (get_or pairs i []) 1 0)) (drop (2 * (i + 1)) text) e
      ∙ sym next

  -- a turn that is refused: one of its two characters is a stranger
  pub turn_refused : (e : LineRefusal) → Err e ≡ byte_at (2 * i + 1) (get_or (get_or pairs i []) 0 0) (get_or (get_or pairs i []) 1 0)
      → going_on (2 * i + 1) front (drop (2 * i) text) ≡ Err e
  unfolding byte_at
  turn_refused e p = next ∙ two_refused (2 * i + 1) e front (value_of (get_or (get_or pairs i []) 0 0)) (value_of (get_or (get_or pairs i []) 1 0)) (drop (2 * (i + 1)) text) p

-- the size of a line that is not refused for it
pub sized : (n : ℕ) → false ≡ ill_sized n → (4 ≤ n) × (n ≤ 64) × (n % 2 ≡ 0)
sized n e = (grind (arith, nat_tests), grind (arith, nat_tests), grind (arith, nat_tests))

-- a line of such a size carries its bytes, unless one of its characters is a stranger
pub fitting : (text : List ℕ) → false ≡ ill_sized (length text) → going_on 1 [] text ≡ carried text
fitting text e = ap (λ (t : Bool). cond t (Err Length) (going_on 1 [] text)) e
