-- The ones of a word are its present hours: counting a part of the year word by word.
use Rattle.std.proofs.Common.{◌≡◌, ℕ, zero, suc, ◌+◌, ◌-◌, ◌*◌, ◌/◌, ◌%◌, ◌^◌, ◌<◌, ◌≤◌, min, Bool, true, false, cond, not, eqb, List, get_or, sym, refl, ap, ◌∙◌, ap₂, inl, inr, add-one, arith, lit<}
use native.Mathlib.Nat.{mod-one}
use lib.Count.{ones, ones_cat, ones_in}
use lib.Pow.{mod-pow-add}
use Rattle.std.proofs.lemmas.Bool.{cases_lt}
use Rattle.std.proofs.lemmas.Nat.{div-mul-add, mod_below, mod-mul-add, shr-shr}
use Rattle.hours.specs.Presence.{count, present}

-- one for an hour that is there
abbrev bit : Bool → ℕ
bit t = cond t 1 0

-- a part is counted in two pieces
pub count_split : (there : ℕ → Bool) (h m n : ℕ) → count there h (m + n) ≡ count there h m + count there (h + m) n
count_split there h zero n =
    let e : 0 + n ≡ n = omega arith in
    let f : h + 0 ≡ h = omega arith in
    let same : count there h (0 + n) ≡ count there (h + 0) n = ap (count there h) e ∙ ap (λ (k : ℕ). count there k n) (sym f) in
    omega arith
count_split there h (suc m) n =
    let e : suc m + n ≡ suc (m + n) = omega arith in
    let f : suc h + m ≡ h + suc m = omega arith in
    let more : count there (suc h) (m + n) ≡ count there (suc h) m + count there (suc h + m) n = count_split there (suc h) m n in
    let all : count there h (suc m + n) ≡ cond (there h) 1 0 + count there (suc h) (m + n) = ap (count there h) e in
    let rest : count there (suc h + m) n ≡ count there (h + suc m) n = ap (λ (k : ℕ). count there k n) f in
    omega arith

-- the ones of a bit
ones_of_bit : (b : ℕ) → b < 2 → ones b ≡ cond (eqb b 1) 1 0
unfolding ones ones_in
ones_of_bit zero lt = refl
ones_of_bit (suc zero) lt = refl
ones_of_bit (suc (suc b)) lt = absurd (omega arith)

ones_none : (x : ℕ) → ones (x % 2 ^ 0) ≡ 0
unfolding ones ones_in
ones_none x = ap ones (mod-one x)

-- the lowest of n + 1 bits, and the n above it
ones_more : (x n : ℕ) → ones (x % 2 ^ (n + 1)) ≡ cond (eqb (x % 2) 1) 1 0 + ones (x / 2 ^ 1 % 2 ^ n)
ones_more x n =
    let cut : ones (x % 2 ^ (n + 1)) ≡ ones (x / 2 ^ 1 % 2 ^ n) + ones (x % 2 ^ 1) =
    ap ones (mod-pow-add x n 1) ∙ ones_cat 1 (x / 2 ^ 1 % 2 ^ n) (x % 2 ^ 1) (mod_below x (2 ^ 1) (lit< tt)) in
    let bit = ones_of_bit (x % 2) (mod_below x 2 (lit< tt)) in
    omega arith

present_at : (words : List ℕ) (q b : ℕ) → b < 64 → present words (q * 64 + b) ≡ eqb (get_or words q 0 / 2 ^ b % 2) 1
unfolding present
present_at words q b lt = ap₂ (λ (i j : ℕ). eqb (get_or words i 0 / 2 ^ j % 2) 1) (div-mul-add q 64 b lt) (mod-mul-add q 64 b lt)

-- the present hours among n bits of word q, from bit b on
pub count_word : (words : List ℕ) (q b n : ℕ) → b + n ≤ 64 → count (present words) (q * 64 + b) n ≡ ones (get_or words q 0 / 2 ^ b % 2 ^ n)
count_word words q b zero le = sym (ones_none (get_or words q 0 / 2 ^ b))
count_word words q b (suc n) le =
    let w = get_or words q 0 in
    let next : suc (q * 64 + b) ≡ q * 64 + (b + 1) = omega arith in
    let later : count (present words) (suc (q * 64 + b)) n ≡ ones (w / 2 ^ (b + 1) % 2 ^ n) =
    ap (λ (h : ℕ). count (present words) h n) next ∙ count_word words q (b + 1) n (omega arith) in
    let here : bit (present words (q * 64 + b)) ≡ bit (eqb (w / 2 ^ b % 2) 1) = ap (λ (t : Bool). bit t) (present_at words q b (omega arith)) in
    let split : ones (w / 2 ^ b % 2 ^ (n + 1)) ≡ cond (eqb (w / 2 ^ b % 2) 1) 1 0 + ones (w / 2 ^ b / 2 ^ 1 % 2 ^ n) = ones_more (w / 2 ^ b) n in
    let shift : ones (w / 2 ^ b / 2 ^ 1 % 2 ^ n) ≡ ones (w / 2 ^ (b + 1) % 2 ^ n) = ap (λ (x : ℕ). ones (x % 2 ^ n)) (shr-shr w b 1) in
    let same : ones (w / 2 ^ b % 2 ^ (n + 1)) ≡ ones (w / 2 ^ b % 2 ^ suc n) = ap (λ (m : ℕ). ones (w / 2 ^ b % 2 ^ m)) (add-one n) in
    omega arith

-- the present hours from hour f of word i up to hour e, which is at most the end of that word
pub count_in_word : (words : List ℕ) (i f e : ℕ) → i * 64 ≤ f → f < (i + 1) * 64 → f ≤ e → e ≤ (i + 1) * 64
    → count (present words) f (e - f) ≡ ones (get_or words i 0 / 2 ^ (f % 64) % 2 ^ (e - f))
count_in_word words i f e from below le most =
    let place : f ≡ i * 64 + f % 64 = omega arith in
    ap (λ (h : ℕ). count (present words) h (e - f)) place ∙ count_word words i (f % 64) (e - f) (omega arith)

-- a part from f up to last, cut at n if that is not past its end
pub count_cut : (there : ℕ → Bool) (f e n last : ℕ) → f ≤ e → e ≡ min last n → count there f (last - f) ≡ count there f (e - f) + count there n (last - n)
count_cut there f e n last le at = elim (cases_lt last n) [
  | inl short ↦
      let all : e ≡ last = omega arith in
      let none : last - n ≡ 0 = omega arith in
      let rest : count there n (last - n) ≡ 0 = ap (count there n) none in
      let same : count there f (last - f) ≡ count there f (e - f) = ap (λ (k : ℕ). count there f (k - f)) (sym all) in
      omega arith
  | inr long ↦
      let cut : e ≡ n = omega arith in
      let sizes : last - f ≡ n - f + (last - n) = omega arith in
      let place : f + (n - f) ≡ n = omega arith in
      ap (count there f) sizes ∙ count_split there f (n - f) (last - n)
      ∙ ap₂ (λ (k h : ℕ). count there f (k - f) + count there h (last - n)) (sym cut) place
]

-- two tests that agree on a part count alike
pub count_alike : (f g : ℕ → Bool) (h n : ℕ) → ((k : ℕ) → h ≤ k → k < h + n → f k ≡ g k) → count f h n ≡ count g h n
count_alike f g h zero same = refl
count_alike f g h (suc n) same =
    ap₂ (λ (t : Bool) (rest : ℕ). cond t 1 0 + rest) (same h (omega arith) (omega arith)) (count_alike f g (suc h) n (λ k ge lt. same k (omega arith) (omega arith)))

-- an hour is there or not
pub count_both : (there : ℕ → Bool) (h n : ℕ) → count (λ k. not (there k)) h n + count there h n ≡ n
count_both there h zero = refl
count_both there h (suc n) =
    let rest : count (λ k. not (there k)) (suc h) n + count there (suc h) n ≡ n = count_both there (suc h) n in
    let here : bit (not (there h)) + bit (there h) ≡ 1 = by (there h) in
    omega arith
  where
    by : (t : Bool) → bit (not t) + bit t ≡ 1
    by true = refl
    by false = refl
