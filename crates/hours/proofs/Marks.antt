-- What marking and clearing do to the bit of each hour.
use Rattle.std.proofs.Common.{◌≡◌, ℕ, zero, suc, ◌+◌, ◌-◌, ◌*◌, ◌/◌, ◌%◌, ◌^◌, ◌<◌, min, true, false, eqb, ◌≢◌, ◌⊎◌, List, ◌++◌, length, get_or, drop, set, replicate, sym, refl, ap, ◌∙◌, inl, inr, pow-suc, arith, lit<}
use native.Mathlib.Nat.{div-eq_of_lt, mul-mod_left, zero-div}
use lib.Bits.{bit_or, or_zero_r}
use Rattle.std.proofs.lemmas.Nat.{mod_below, or_mod, or_shr, pow-add, pow_below, shl-shr}
use Rattle.std.proofs.lemmas.List.{get_or_append_left, get_or_past, get_or-replicate, get_or-set_other, get_or-set_same, length-append, length-drop, length-replicate}
use Rattle.std.proofs.lemmas.Bool.{cases_eq, cases_lt, cases_order}
use Rattle.hours.specs.Presence.{cleared, marked, present}

-- one word: a bit of it, with the bit b set

bit_of_or : (w v j : ℕ) → bit_or w v / 2 ^ j % 2 ≡ bit_or (w / 2 ^ j % 2) (v / 2 ^ j % 2)
bit_of_or w v j = ap (λ (x : ℕ). x % 2) (or_shr w v j) ∙ or_mod (w / 2 ^ j) (v / 2 ^ j) 1

or_one : (x : ℕ) → x < 2 → bit_or x 1 ≡ 1
or_one zero h = refl
or_one (suc zero) h = refl
or_one (suc (suc x)) h = absurd (omega arith)

own_bit : (b : ℕ) → 2 ^ b / 2 ^ b % 2 ≡ 1
own_bit b =
    let once : 1 * 2 ^ b ≡ 2 ^ b = omega arith in
    ap (λ (x : ℕ). x % 2) (ap (λ (x : ℕ). x / 2 ^ b) (sym once) ∙ shl-shr 1 b)

higher_bit : (e j : ℕ) → 2 ^ (suc e + j) / 2 ^ j % 2 ≡ 0
higher_bit e j =
    ap (λ (x : ℕ). x / 2 ^ j % 2) (pow-add 2 (suc e) j)
    ∙ ap (λ (x : ℕ). x % 2) (shl-shr (2 ^ suc e) j ∙ pow-suc 2 e)
    ∙ mul-mod_left (2 ^ e) 2

other_bit : (b j : ℕ) → (j < b) ⊎ (b < j) → 2 ^ b / 2 ^ j % 2 ≡ 0
other_bit b j (inl lt) =
    let split : suc (b - j - 1) + j ≡ b = omega arith in
    ap (λ (x : ℕ). 2 ^ x / 2 ^ j % 2) (sym split) ∙ higher_bit (b - j - 1) j
other_bit b j (inr lt) = ap (λ (x : ℕ). x % 2) (div-eq_of_lt (pow_below b j lt))

apart : (a b : ℕ) → a ≢ b → (a < b) ⊎ (b < a)
apart a b ne = elim (cases_order a b) [ inl e ↦ absurd (ne e) | inr o ↦ o ]

set_bit : (w b : ℕ) → bit_or w (2 ^ b) / 2 ^ b % 2 ≡ 1
set_bit w b = bit_of_or w (2 ^ b) b ∙ ap (bit_or (w / 2 ^ b % 2)) (own_bit b) ∙ or_one (w / 2 ^ b % 2) (mod_below (w / 2 ^ b) 2 (lit< tt))

kept_bit : (w b j : ℕ) → j ≢ b → bit_or w (2 ^ b) / 2 ^ j % 2 ≡ w / 2 ^ j % 2
kept_bit w b j ne = bit_of_or w (2 ^ b) j ∙ ap (bit_or (w / 2 ^ j % 2)) (other_bit b j (apart j b ne)) ∙ or_zero_r (w / 2 ^ j % 2)

-- the words: the hour that is marked is present, and no other hour changes

module _ (words : List ℕ) (h : ℕ) (lent : h / 64 < length words) where
  abbrev new_word : ℕ
  new_word = bit_or (get_or words (h / 64) 0) (2 ^ (h % 64))

  pub marked_present : present (marked words h) h ≡ true
  unfolding present marked
  marked_present =
      ap (λ (w : ℕ). eqb (w / 2 ^ (h % 64) % 2) 1) (get_or-set_same words (h / 64) new_word 0 lent)
      ∙ ap (λ (x : ℕ). eqb x 1) (set_bit (get_or words (h / 64) 0) (h % 64))

  same_word : (k : ℕ) → k / 64 ≡ h / 64 → k % 64 ≢ h % 64 → present (marked words h) k ≡ present words k
  unfolding present marked
  same_word k q ne =
      ap (λ (i : ℕ). eqb (get_or (set words (h / 64) new_word) i 0 / 2 ^ (k % 64) % 2) 1) q
      ∙ ap (λ (w : ℕ). eqb (w / 2 ^ (k % 64) % 2) 1) (get_or-set_same words (h / 64) new_word 0 lent)
      ∙ ap (λ (x : ℕ). eqb x 1) (kept_bit (get_or words (h / 64) 0) (h % 64) (k % 64) ne)
      ∙ ap (λ (i : ℕ). eqb (get_or words i 0 / 2 ^ (k % 64) % 2) 1) (sym q)

  other_word : (k : ℕ) → k / 64 ≢ h / 64 → present (marked words h) k ≡ present words k
  unfolding present marked
  other_word k ne = ap (λ (w : ℕ). eqb (w / 2 ^ (k % 64) % 2) 1) (get_or-set_other words (h / 64) (k / 64) new_word 0 ne)

  pub others_kept : (k : ℕ) → k ≢ h → present (marked words h) k ≡ present words k
  others_kept k ne = elim (cases_eq (k / 64) (h / 64)) [
    | inl q ↦ same_word k q (λ r. ne (omega arith))
    | inr d ↦ other_word k d
  ]

-- no hour of a year is present once its words are cleared
pub cleared_absent : (words : List ℕ) (k : ℕ) → k / 64 < 138 → present (cleared words) k ≡ false
unfolding present cleared
cleared_absent words k lt = ap (λ (w : ℕ). eqb (w / 2 ^ (k % 64) % 2) 1) (zero_word (k / 64) lt) ∙ ap (λ (x : ℕ). eqb (x % 2) 1) (zero-div (2 ^ (k % 64)))
  where
    zero_word : (i : ℕ) → i < 138 → get_or (replicate (min 138 (length words)) 0 ++ drop 138 words) i 0 ≡ 0
    zero_word i small = elim (cases_lt i (min 138 (length words))) [
      | inl inside ↦ get_or_append_left (replicate (min 138 (length words)) 0) (drop 138 words) 0 i (rw length-replicate inside) ∙ get_or-replicate (min 138 (length words)) i 0 0 inside
      | inr past ↦ get_or_past (replicate (min 138 (length words)) 0 ++ drop 138 words) i 0 (simp (length-append, length-replicate, length-drop) (omega arith))
    ]
