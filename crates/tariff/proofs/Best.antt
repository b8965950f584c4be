-- That the advice of the definitions is the one that the rule describes, that there is only one, and that nothing is
-- cheaper: over any permitted choices and any charge. Assumes nothing.
use Rattle.std.proofs.Common.{◌≡◌, ℕ, zero, suc, ◌+◌, ◌<◌, ◌≤◌, Bool, true, false, cond, ℤ, ◌≤ℤ◌, Some, None, Option, sym, refl, ap, ◌∙◌, subst, inl, inr, ⊎_elim, add-one, arith}
use lib.Signed.{le_z}
use Rattle.std.specs.Option.{IsSome}
use Rattle.std.proofs.lemmas.Int.{ints}
use Rattle.std.proofs.lemmas.Bool.{cases_lt, cases_order, cases_Bool, both_ways, cond-true, cond-false}
use Rattle.tariff.specs.declared.advice.Advice.{Advice}
use Rattle.tariff.specs.Charges.{Convex}
use Rattle.tariff.specs.Advised.{Advised, Cheapest, first_settled, settled_advice, better_of, best_below, or_blank, advice_within}
use Rattle.tariff.proofs.Settles.{first_settles, settled_lowest}

module _ (permitted : ℕ → Bool) (K : ℕ → ℕ → ℤ) (low high : ℕ) where
  -- the choices one by one
  pub best_none : best_below permitted K low high 0 ≡ None
  unfolding best_below
  best_none = refl

  pub best_take : (n : ℕ) → permitted n ≡ true → best_below permitted K low high (n + 1) ≡ Some (better_of (best_below permitted K low high n) (settled_advice K low high n))
  unfolding best_below
  best_take n p = rw add-one (cond-true (permitted n) _ _ p)

  pub best_skip : (n : ℕ) → permitted n ≡ false → best_below permitted K low high (n + 1) ≡ best_below permitted K low high n
  unfolding best_below
  best_skip n p = rw add-one (cond-false (permitted n) _ _ p)

  -- what is best of the choices below n, or that none of them is permitted
  abbrev pub Best : ℕ → Option Advice → Type 0
  Best n None = (c : ℕ) → c < n → permitted c ≡ true → ⊥
  Best n (Some a) = Advised permitted K low high n a

  -- what holds of the permitted choices below n, and of n, holds below n + 1
  one_more : (P : ℕ → Type 0) (n : ℕ) → ((c : ℕ) → c < n → permitted c ≡ true → P c) → (permitted n ≡ true → P n) → (c : ℕ) → c < n + 1 → permitted c ≡ true → P c
  one_more P n below here c h p =
      ⊎_elim (λ lt. below c lt p) (λ ge. let same : n ≡ c = omega arith in subst P same (here (rw same p))) (cases_lt c n)

  pub skipped : (n : ℕ) (o : Option Advice) → permitted n ≡ false → Best n o → Best (n + 1) o
  skipped n None p h = one_more (λ c. ⊥) n h (both_ways (permitted n) p)
  skipped n (Some a) p h = record {
    below = omega arith;
    allowed = h.allowed;
    settles = h.settles;
    told = h.told;
    least = one_more (λ c. a.charge ≤ℤ (settled_advice K low high c).charge) n h.least (λ q. absurd (both_ways (permitted n) p q));
    lowest = h.lowest;
  }

  pub taken : (n : ℕ) (o : Option Advice) → permitted n ≡ true → Best n o → Advised permitted K low high (n + 1) (better_of o (settled_advice K low high n))
  taken n o p = by o
    where
      here : Advice
      here = settled_advice K low high n

      by : (o : Option Advice) → Best n o → Advised permitted K low high (n + 1) (better_of o here)
      by None h = record {
        below = omega arith;
        allowed = p;
        settles = refl;
        told = refl;
        least = one_more (λ c. here.charge ≤ℤ (settled_advice K low high c).charge) n (λ c lt q. absurd (h c lt q)) (λ q. omega (arith, ints));
        lowest = λ c lt q. absurd (h c lt q);
      }
      by (Some best) h = test (le_z best.charge here.charge) refl
        where
          test : (b : Bool) → le_z best.charge here.charge ≡ b → Advised permitted K low high (n + 1) (cond b best here)
          test true t = record {
            below = omega arith;
            allowed = h.allowed;
            settles = h.settles;
            told = h.told;
            least = one_more (λ c. best.charge ≤ℤ (settled_advice K low high c).charge) n h.least (λ q. omega (arith, ints));
            lowest = h.lowest;
          }
          test false t = record {
            below = omega arith;
            allowed = p;
            settles = refl;
            told = refl;
            least = one_more (λ c. here.charge ≤ℤ (settled_advice K low high c).charge) n (λ c lt q. let i = h.least c lt q in omega (arith, ints)) (λ q. omega (arith, ints));
            lowest = λ c lt q. let i = h.least c lt q in omega (arith, ints);
          }

  best_next : (n : ℕ) → Best n (best_below permitted K low high n) → Best (n + 1) (best_below permitted K low high (n + 1))
  best_next n h =
      ⊎_elim
      (λ p. subst (Best (n + 1)) (sym (best_take n p)) (taken n (best_below permitted K low high n) p h))
      (λ p. subst (Best (n + 1)) (sym (best_skip n p)) (skipped n (best_below permitted K low high n) p h))
      (cases_Bool (permitted n))

  best_is : (n : ℕ) → Best n (best_below permitted K low high n)
  best_is zero = subst (Best 0) (sym best_none) (λ c lt p. omega arith)
  best_is (suc n) = subst (λ (m : ℕ). Best m (best_below permitted K low high m)) (add-one n) (best_next n (best_is n))

  module _ (n : ℕ) where
    -- where some choice is permitted, the advice of the definitions is the one that the rule describes
    pub advised : (c : ℕ) → c < n → permitted c ≡ true → Advised permitted K low high n (advice_within permitted K low high n)
    unfolding advice_within
    advised c lt p = by (best_below permitted K low high n) (best_is n)
      where
        by : (o : Option Advice) → Best n o → Advised permitted K low high n (or_blank o)
        by None none = absurd (none c lt p)
        by (Some a) h = h

    -- there is one then, and it is what the advice of the definitions is
    pub some_best : (c : ℕ) → c < n → permitted c ≡ true → IsSome (best_below permitted K low high n)
    some_best c lt p = by (best_below permitted K low high n) (best_is n)
      where
        by : (o : Option Advice) → Best n o → IsSome o
        by None none = absurd (none c lt p)
        by (Some a) h = refl

    pub found : (a : Advice) → best_below permitted K low high n ≡ Some a → a ≡ advice_within permitted K low high n
    unfolding advice_within
    found a e = ap or_blank (sym e)

    lower : (a b : Advice) → Advised permitted K low high n a → Advised permitted K low high n b → a.choice < b.choice → ⊥
    lower a b h k lt =
        let dearer = k.lowest a.choice lt h.allowed in
        let cheaper = h.least b.choice k.below k.allowed in
        let at_a : a.charge ≡ (settled_advice K low high a.choice).charge = h.told ∙ ap (K a.choice) h.settles in
        let at_b : b.charge ≡ (settled_advice K low high b.choice).charge = k.told ∙ ap (K b.choice) k.settles in
        omega (arith, ints)

    -- the rule describes one advice at most
    pub only : (a b : Advice) → Advised permitted K low high n a → Advised permitted K low high n b → a ≡ b
    only a b h k =
        let same : a.choice ≡ b.choice = ⊎_elim (λ e. e) (⊎_elim (λ lt. absurd (lower a b h k lt)) (λ gt. absurd (lower b a k h gt))) (cases_order a.choice b.choice) in
        of_choice a h ∙ ap (settled_advice K low high) same ∙ sym (of_choice b k)
      where
        of_choice : (x : Advice) → Advised permitted K low high n x → x ≡ settled_advice K low high x.choice
        of_choice x e =
            ap (λ (s : ℕ). record { choice = x.choice; kw = s; charge = x.charge }) e.settles
            ∙ ap (λ (z : ℤ). record { choice = x.choice; kw = first_settled (K x.choice) low high; charge = z }) (e.told ∙ ap (K x.choice) e.settles)

    -- under a convex charge, nothing is cheaper than what the rule describes
    pub cheapest : (top : ℕ) (a : Advice) → low ≤ high → high ≤ top → ((c : ℕ) → c < n → permitted c ≡ true → Convex top (K c)) → Advised permitted K low high n a → Cheapest permitted K low high n a
    cheapest top a ordered within convex h = record {
      below = h.below;
      allowed = h.allowed;
      from = omega (arith, (first_settles (K a.choice) low high).from, h.settles);
      to = omega (arith, (first_settles (K a.choice) low high).to, h.settles);
      least = λ c s lt p ge le. let i = h.least c lt p in let k = (lowest c s lt p ge le).0 in omega (arith, ints);
      first = λ c s lt p ge le e.
          let i = h.least c lt p in
          let k = (lowest c s lt p ge le).0 in
          ⊎_elim
          (λ same. inr (same, omega (arith, h.settles ∙ ap (λ (q : ℕ). first_settled (K q) low high) same, (lowest c s lt p ge le).1 (omega (arith, ints)))))
          (⊎_elim inl (λ under. let j = h.lowest c under p in absurd (omega (arith, ints))))
          (cases_order a.choice c);
    }
      where
        lowest : (c s : ℕ) → c < n → permitted c ≡ true → low ≤ s → s ≤ high → ((settled_advice K low high c).charge ≤ℤ K c s) × (K c s ≡ (settled_advice K low high c).charge → first_settled (K c) low high ≤ s)
        lowest c s lt p ge le = settled_lowest (K c) top low high s (convex c lt p) within ge le
