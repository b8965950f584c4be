-- A line that comes in byte by byte: its first 65 bytes are kept, and tell what it asks.
use Rattle.std.proofs.Common.{◌≡◌, ℕ, ◌+◌, ◌<◌, ◌≤◌, true, List, [], ◌∷◌, ◌++◌, length, take, set, Err, sym, ap, ◌∙◌, inl, inr, arith}
use Rattle.std.proofs.lemmas.List.{length-append, length-take-le, take_all, take-append-le, take_more_set}
use Rattle.std.proofs.lemmas.Bool.{cases_lt, cond-true}
use Rattle.std.proofs.lemmas.Bool.Decides.{nat_tests}
use Rattle.refusals.specs.declared.line.LineRefusal.TheVariants.{Length}
use Rattle.service_line.specs.Fronts.{Keeps}
use Rattle.service_line.specs.Lines.{bytes_of, carried, first_stranger, ill_sized, unless_stranger}
use Rattle.service_line.specs.Reading.{by_line, reading}

long : (n : ℕ) → 64 < n → ill_sized n ≡ true
long n lt = grind (arith, nat_tests)

-- a line over 64 bytes carries nothing
carries_none : (text : List ℕ) → 64 < length text → carried text ≡ Err Length
carries_none text lt = cond-true (ill_sized (length text)) (Err Length) (unless_stranger (first_stranger 1 text) (bytes_of text)) (long (length text) lt)

pub cut_alike : (text : List ℕ) → reading (take 65 text) ≡ reading text
cut_alike text = elim (cases_lt 64 (length text)) [
  | inl lt ↦
      let many : 65 ≤ length text = omega arith in
      let cut : length (take 65 text) ≡ 65 = length-take-le 65 text many in
      ap by_line (carries_none (take 65 text) (omega arith) ∙ sym (carries_none text lt))
  | inr le ↦ ap reading (take_all 65 text (omega arith))
]

-- one byte more, of a line whose front is kept
pub keeps_more : (kept text : List ℕ) (b : ℕ) → Keeps kept text → Keeps (take 65 (kept ++ b ∷ [])) (text ++ b ∷ [])
keeps_more kept text b keeps = elim (cases_lt 65 (length text)) [
  | inl lt ↦
      let many : 65 ≤ length text = omega arith in
      let full : 65 ≤ length kept = rw keeps (simp length-take-le (omega arith)) in
      take-append-le 65 kept (b ∷ []) full
      ∙ take_all 65 kept (rw keeps (simp length-take-le (omega arith)))
      ∙ keeps
      ∙ sym (take-append-le 65 text (b ∷ []) many)
  | inr le ↦ ap (λ (front : List ℕ). take 65 (front ++ b ∷ [])) (keeps ∙ take_all 65 text le)
]

module _ (bytes kept : List ℕ) (len b : ℕ) (size : length bytes ≡ 65) (within : len ≤ length bytes) (is : take len bytes ≡ kept) where
  many : length kept ≡ len
  many = ap length (sym is) ∙ length-take-le len bytes within

  -- a byte that has a place
  pub placed : len < 65 → take (len + 1) (set bytes len b) ≡ take 65 (kept ++ b ∷ [])
  placed lt =
      let fits : length (kept ++ b ∷ []) ≤ 65 = simp length-append (omega (arith, many)) in
      take_more_set bytes len b (omega arith) ∙ ap (λ (front : List ℕ). front ++ b ∷ []) is ∙ sym (take_all 65 (kept ++ b ∷ []) fits)

  -- and one that comes later
  pub unplaced : 65 ≤ len → kept ≡ take 65 (kept ++ b ∷ [])
  unplaced full = sym (take-append-le 65 kept (b ∷ []) (omega (arith, many)) ∙ take_all 65 kept (omega (arith, many)))
