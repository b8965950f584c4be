-- Advice depends on nothing but which choices are permitted and what those cost in reach: for whoever has one meaning written in
-- two ways. Assumes nothing.
use Rattle.std.proofs.Common.{◌≡◌, ℕ, zero, suc, ◌+◌, ◌-◌, ◌<◌, ◌≤◌, Bool, true, ℤ, sym, refl, ap, ◌∙◌, subst, ⊎_elim, add-one, arith}
use Rattle.std.proofs.lemmas.Bool.{cases_Bool}
use Rattle.tariff.specs.Advised.{settle, first_settled, settled_advice, best_below, or_blank, advice_within}
use Rattle.tariff.proofs.Settles.{first_settles}
use Rattle.tariff.proofs.Best.{best_none, best_take, best_skip}

settle_alike : (K L : ℕ → ℤ) (n s : ℕ) → ((k : ℕ) → s ≤ k → k ≤ s + n → K k ≡ L k) → settle K n s ≡ settle L n s
settle_alike K L zero s same = refl
settle_alike K L (suc n) s same =
    let here = same s (omega arith) (omega arith) in
    let next = same (s + 1) (omega arith) (omega arith) in
    let rest = settle_alike K L n (s + 1) (λ k a b. same k (omega arith) (omega arith)) in
    cc

module _ (low high : ℕ) (ordered : low ≤ high) where
  settled_alike : (K L : ℕ → ℕ → ℤ) (c : ℕ) → ((s : ℕ) → low ≤ s → s ≤ high → K c s ≡ L c s) → settled_advice K low high c ≡ settled_advice L low high c
  unfolding first_settled
  settled_alike K L c same =
      let at = settle_alike (K c) (L c) (high - low) low (λ k a b. same k a (omega arith)) in
      let reach = first_settles (L c) low high in
      let paid = same (settle (L c) (high - low) low) reach.from (omega (arith, reach.to)) in
      cc

  module _ (p q : ℕ → Bool) (K L : ℕ → ℕ → ℤ) where
    best_alike : (n : ℕ) → ((c : ℕ) → c < n → p c ≡ q c) → ((c s : ℕ) → c < n → p c ≡ true → low ≤ s → s ≤ high → K c s ≡ L c s) → best_below p K low high n ≡ best_below q L low high n
    best_alike zero permits costs = best_none p K low high ∙ sym (best_none q L low high)
    best_alike (suc n) permits costs =
        let before : best_below p K low high n ≡ best_below q L low high n = best_alike n (λ c lt. permits c (omega arith)) (λ c s lt. costs c s (omega arith)) in
        let both : p n ≡ q n = permits n (omega arith) in
        let step : best_below p K low high (n + 1) ≡ best_below q L low high (n + 1) = ⊎_elim
        (λ yes. let now = settled_alike K L n (λ s. costs n s (omega arith) yes) in let a = best_take p K low high n yes in let b = best_take q L low high n (sym both ∙ yes) in cc)
        (λ no. let a = best_skip p K low high n no in let b = best_skip q L low high n (sym both ∙ no) in cc)
        (cases_Bool (p n)) in
        subst (λ (m : ℕ). best_below p K low high m ≡ best_below q L low high m) (add-one n) step

    pub advice_alike : (n : ℕ) → ((c : ℕ) → c < n → p c ≡ q c) → ((c s : ℕ) → c < n → p c ≡ true → low ≤ s → s ≤ high → K c s ≡ L c s) → advice_within p K low high n ≡ advice_within q L low high n
    unfolding advice_within
    advice_alike n permits costs = ap or_blank (best_alike n permits costs)
