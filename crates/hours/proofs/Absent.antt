-- The first absent hour of a part of the year: what it says of the hours before it, and what a search for it answers.
use Rattle.std.proofs.Common.{◌≡◌, ℕ, zero, suc, ◌+◌, ◌-◌, ◌<◌, ◌≤◌, Bool, true, false, cond, Some, None, Option, sym, refl, ap, ◌∙◌, ap₂, inl, inr, add-one, arith}
use Rattle.std.specs.Option.{MatchOption}
use Rattle.std.proofs.lemmas.Bool.{cases_Bool, cases_eq}
use Rattle.hours.specs.Presence.{first_absent}

-- no hour of the part is absent: each is there
pub all_there : (there : ℕ → Bool) (k n : ℕ) → first_absent there k n ≡ None → (h : ℕ) → k ≤ h → h < k + n → there h ≡ true
all_there there k zero e h ge lt = absurd (omega arith)
all_there there k (suc n) e h ge lt = elim (cases_Bool (there k)) [
  | inl here ↦
      let later : first_absent there (suc k) n ≡ None = sym (ap (λ (t : Bool). cond t (first_absent there (suc k) n) (Some k)) here) ∙ e in
      elim (cases_eq h k) [
        | inl same ↦ ap there same ∙ here
        | inr ne ↦ let apart : h ≡ k → ⊥ = ne in all_there there (suc k) n later h (omega arith) (omega arith)
      ]
  | inr gone ↦
      let found : Some k ≡ None = sym (ap (λ (t : Bool). cond t (first_absent there (suc k) n) (Some k)) gone) ∙ e in
      let z : ◌≡◌ {A = ℕ} 0 1 = cc in absurd (omega arith)
]

pub none_absent : (there : ℕ → Bool) (k n : ℕ) → ((h : ℕ) → k ≤ h → h < k + n → there h ≡ true) → first_absent there k n ≡ None
none_absent there k zero all = refl
none_absent there k (suc n) all =
    ap (λ (t : Bool). cond t (first_absent there (suc k) n) (Some k)) (all k (omega arith) (omega arith))
    ∙ none_absent there (suc k) n (λ h ge lt. all h (omega arith) (omega arith))

-- two tests that agree on a part find the same hour
pub absent_alike : (f g : ℕ → Bool) (k n : ℕ) → ((h : ℕ) → k ≤ h → h < k + n → f h ≡ g h) → first_absent f k n ≡ first_absent g k n
absent_alike f g k zero same = refl
absent_alike f g k (suc n) same =
    ap₂ (λ (t : Bool) (x : Option ℕ). cond t x (Some k)) (same k (omega arith) (omega arith)) (absent_alike f g (suc k) n (λ h ge lt. same h (omega arith) (omega arith)))

-- the first hour that is not there, where those before it are
found_at : (there : ℕ → Bool) (k n i : ℕ) → k ≤ i → i < k + n → there i ≡ false → ((h : ℕ) → k ≤ h → h < i → there h ≡ true) → first_absent there k n ≡ Some i
found_at there k zero i ge lt gone all = absurd (omega arith)
found_at there k (suc n) i ge lt gone all = elim (cases_eq i k) [
  | inl same ↦ ap (λ (t : Bool). cond t (first_absent there (suc k) n) (Some k)) (ap there (sym same) ∙ gone) ∙ ap (λ (h : ℕ). Some h) (sym same)
  | inr ne ↦
      let apart : i ≡ k → ⊥ = ne in
      ap (λ (t : Bool). cond t (first_absent there (suc k) n) (Some k)) (all k (omega arith) (omega arith))
      ∙ found_at there (suc k) n i (omega arith) (omega arith) gone (λ h ge lt. all h (omega arith) lt)
]

-- what a search from k up to e answers
pub absent_found : (there : ℕ → Bool) (k e : ℕ) (r : Option ℕ) → k ≤ e
    → MatchOption r ((h : ℕ) → k ≤ h → h < e → there h ≡ true) (λ i. (k ≤ i) × (i < e) × (there i ≡ false) × ((h : ℕ) → k ≤ h → h < i → there h ≡ true))
    → r ≡ first_absent there k (e - k)
absent_found there k e None le all = sym (none_absent there k (e - k) (λ h ge lt. all h ge (omega arith)))
absent_found there k e (Some i) le found = sym (found_at there k (e - k) i found.0 (let lt = found.1 in omega arith) found.2 found.3)

-- one hour of a part: it is absent, or the part goes on behind it
pub absent_here : (there : ℕ → Bool) (k n : ℕ) → 0 < n → there k ≡ false → first_absent there k n ≡ Some k
absent_here there k zero lt gone = absurd (omega arith)
absent_here there k (suc n) lt gone = ap (λ (t : Bool). cond t (first_absent there (suc k) n) (Some k)) gone

pub absent_later : (there : ℕ → Bool) (k n m : ℕ) → n ≡ suc m → there k ≡ true → first_absent there (k + 1) m ≡ first_absent there k n
absent_later there k n m e here =
    ap (λ (j : ℕ). first_absent there j m) (add-one k)
    ∙ sym (ap (λ (t : Bool). cond t (first_absent there (suc k) m) (Some k)) here)
    ∙ ap (first_absent there k) (sym e)
