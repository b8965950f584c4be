-- Laws of a rising row of numbers, as the days up to each month's end: where a number stands in it.
use Rattle.std.proofs.Common.{◌≡◌, ℕ, zero, suc, ◌+◌, ◌<◌, ◌≤◌, cond, leb, refl, inl, inr, add-zero, add-suc, arith}
use Rattle.std.proofs.lemmas.Bool.{cases_lt}
use Rattle.std.proofs.lemmas.Bool.Decides.{nat_tests}

abbrev pub Rising : (ℕ → ℕ) → Type 0
Rising f = (m : ℕ) → f m < f (suc m)

pub rising_mono : (f : ℕ → ℕ) → Rising f → (m n : ℕ) → m ≤ n → f m ≤ f n
rising_mono f rises m zero le = let e : m ≡ 0 = omega arith in rw e (omega arith)
rising_mono f rises m (suc n) le =
    elim (cases_lt m (suc n)) [
      | inl lt ↦ omega (arith, rising_mono f rises m n (omega arith), rises n)
      | inr ge ↦ let e : m ≡ suc n = omega arith in rw e (omega arith)
    ]

-- a number below f n lies between two neighbours
pub between : (f : ℕ → ℕ) (d n : ℕ) → f 0 ≤ d → d < f n → (m : ℕ) × (m < n) × (f m ≤ d) × (d < f (suc m))
between f d zero low lt = absurd (omega arith)
between f d (suc n) low lt =
    elim (cases_lt d (f n)) [
      | inl l ↦ let p = between f d n low l in (p.0, omega (arith, p.1), p.2, p.3)
      | inr r ↦ (n, omega arith, r, lt)
    ]

-- how many of f 1 to f n are at most d
abbrev pub passed : (ℕ → ℕ) → ℕ → ℕ → ℕ
passed f d zero = 0
passed f d (suc n) = passed f d n + cond (leb (f (suc n)) d) 1 0

passed_all : (f : ℕ → ℕ) (d n : ℕ) → Rising f → f n ≤ d → passed f d n ≡ n
passed_all f d zero rises le = refl
passed_all f d (suc n) rises le =
    let r = rises n in
    let e : passed f d n ≡ n = passed_all f d n rises (omega arith) in
    grind (arith, nat_tests)

-- between f k and f (k + 1) they are k
pub passed_at : (f : ℕ → ℕ) (d k n : ℕ) → Rising f → f k ≤ d → d < f (suc k) → passed f d (k + n) ≡ k
passed_at f d k zero rises le lt = rw add-zero (passed_all f d k rises le)
passed_at f d k (suc n) rises le lt =
    let e : passed f d (k + n) ≡ k = passed_at f d k n rises le lt in
    let g : f (suc k) ≤ f (suc (k + n)) = rising_mono f rises (suc k) (suc (k + n)) (omega arith) in
    rw add-suc (grind (arith, nat_tests))
