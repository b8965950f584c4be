-- What advice is, from the permitted choices and the charge K of a choice and kW: the rule to the letter, as a function
-- and as a description, and what a customer cares about, that nothing is cheaper.
use Rattle.std.specs.Prelude.{◌≡◌, ℕ, zero, suc, ◌+◌, ◌-◌, ◌<◌, ◌≤◌, Bool, true, cond, ◌⊎◌, ℤ, pos, ◌≤ℤ◌, ◌<ℤ◌, Some, None, Option, int_le}
use Rattle.tariff.specs.declared.advice.Advice.{Advice}

-- going up from s, n steps at most: the first kW whose successor is not cheaper
abbrev pub settle : (ℕ → ℤ) → ℕ → ℕ → ℕ
settle K zero s = s
settle K (suc n) s = cond (int_le (K s) (K (s + 1))) s (settle K n (s + 1))

-- the first kW from low on whose successor is not cheaper, or high
unfoldable pub first_settled : (ℕ → ℤ) → ℕ → ℕ → ℕ
first_settled K low high = settle K (high - low) low

-- a choice at its advised kW, of those from low to high
abbrev pub settled_advice : (ℕ → ℕ → ℤ) → ℕ → ℕ → ℕ → Advice
settled_advice K low high c =
    record { choice = c; kw = first_settled (K c) low high; charge = K c (first_settled (K c) low high) }

-- the cheaper one, and the earlier of two that cost the same
abbrev pub better_of : Option Advice → Advice → Advice
better_of None next = next
better_of (Some best) next = cond (int_le best.charge next.charge) best next

-- the best of the permitted choices below n, each at its advised kW
unfoldable pub best_below : (ℕ → Bool) → (ℕ → ℕ → ℤ) → ℕ → ℕ → ℕ → Option Advice
best_below permitted K low high zero = None
best_below permitted K low high (suc n) =
    cond
    (permitted n)
    (Some (better_of (best_below permitted K low high n) (settled_advice K low high n)))
    (best_below permitted K low high n)

-- the one that is there; of none, which no tariff comes to, a blank
abbrev pub or_blank : Option Advice → Advice
or_blank (Some a) = a
or_blank None = record { choice = 0; kw = 0; charge = pos 0 }

-- advice among the kW from low to high
unfoldable pub advice_within : (ℕ → Bool) → (ℕ → ℕ → ℤ) → ℕ → ℕ → ℕ → Advice
advice_within permitted K low high n = or_blank (best_below permitted K low high n)

-- advice among all kW up to the top
abbrev pub advice_of : (ℕ → Bool) → (ℕ → ℕ → ℤ) → ℕ → ℕ → Advice
advice_of permitted K top n = advice_within permitted K 0 top n

-- The rule to the letter, of the choices below n and the kW from low to high: a permitted choice, at its advised kW, with
-- its charge there; the least such charge, and every permitted choice with a lower number costs more. There is only one.
pub record Advised (permitted : ℕ → Bool) (K : ℕ → ℕ → ℤ) (low high n : ℕ) (a : Advice) : Type 0 where
  pub below : a.choice < n
  pub allowed : permitted a.choice ≡ true
  pub settles : a.kw ≡ first_settled (K a.choice) low high
  pub told : a.charge ≡ K a.choice a.kw
  pub least : (c : ℕ) → c < n → permitted c ≡ true → a.charge ≤ℤ (settled_advice K low high c).charge
  pub lowest : (c : ℕ) → c < a.choice → permitted c ≡ true → a.charge <ℤ (settled_advice K low high c).charge

-- A permitted choice and a kW in reach, and of all such none costs less; what costs the same has a higher choice number,
-- or the same number and at least as many kW.
pub record Cheapest (permitted : ℕ → Bool) (K : ℕ → ℕ → ℤ) (low high n : ℕ) (a : Advice) : Type 0 where
  pub below : a.choice < n
  pub allowed : permitted a.choice ≡ true
  pub from : low ≤ a.kw
  pub to : a.kw ≤ high
  pub least : (c s : ℕ) → c < n → permitted c ≡ true → low ≤ s → s ≤ high → a.charge ≤ℤ K c s
  pub first : (c s : ℕ) → c < n → permitted c ≡ true → low ≤ s → s ≤ high → K c s ≡ a.charge → (a.choice < c) ⊎ ((a.choice ≡ c) × (a.kw ≤ s))
