-- Why the first kW whose successor is not cheaper is the lowest point of a convex charge, and the only one that the rule
-- can mean. Assumes nothing.
use Rattle.std.proofs.Common.{◌≡◌, ℕ, zero, suc, ◌+◌, ◌-◌, ◌<◌, ◌≤◌, Bool, true, false, cond, ◌⊎◌, ℤ, ◌≤ℤ◌, ◌<ℤ◌, refl, inl, inr, ⊎_elim, arith}
use lib.Signed.{le_z}
use Rattle.std.proofs.lemmas.Int.{ints, by_lt_z}
use Rattle.std.proofs.lemmas.Bool.{cases_lt, cases_order}
use Rattle.tariff.specs.Charges.{Convex}
use Rattle.tariff.specs.Advised.{settle, first_settled}

module _ (K : ℕ → ℤ) (top : ℕ) (convex : Convex top K) where
  -- a charge that has stopped falling at s does not fall again at m, n kW later
  stays : (n s m : ℕ) → m ≡ s + n → m + 1 ≤ top → K s ≤ℤ K (s + 1) → K m ≤ℤ K (m + 1)
  stays zero s m e h k = let same : m ≡ s = omega arith in rw same k
  stays (suc n) s m e h k =
      let law = convex s (omega arith) in
      let next : K (s + 1) ≤ℤ K (s + 2) = omega (arith, ints) in
      let two : (s + 1) + 1 ≡ s + 2 = omega arith in
      stays n (s + 1) m (omega arith) h (rw two next)

  -- so where it still falls, it has fallen all the way
  pub falls_before : (m : ℕ) → m + 1 ≤ top → K (m + 1) <ℤ K m → (k : ℕ) → k ≤ m → K (k + 1) <ℤ K k
  falls_before m h fall k le =
      by_lt_z (K (k + 1)) (K k) (λ lt. lt) (λ stop. let on : K m ≤ℤ K (m + 1) = stays (m - k) k m (omega arith) h stop in absurd (omega (arith, ints)))

  -- and once it has stopped at r, no later s is cheaper
  rises_after : (n r s : ℕ) → s ≡ r + n → s ≤ top → K r ≤ℤ K (r + 1) → K r ≤ℤ K s
  rises_after zero r s e h stop = let same : s ≡ r = omega arith in rw same (omega (arith, ints))
  rises_after (suc n) r s e h stop =
      let before : K r ≤ℤ K (r + n) = rises_after n r (r + n) refl (omega arith) stop in
      let step : K (r + n) ≤ℤ K ((r + n) + 1) = stays n r (r + n) refl (omega arith) stop in
      let last : s ≡ (r + n) + 1 = omega arith in
      rw last (omega (arith, ints))

-- of the n steps up from s, r is where the rule stops: all before it fall, and it is the last or the next is not cheaper
pub record Settles (K : ℕ → ℤ) (s n r : ℕ) : Type 0 where
  pub from : s ≤ r
  pub to : r ≤ s + n
  pub falls : (k : ℕ) → s ≤ k → k < r → K (k + 1) <ℤ K k
  pub stops : (r ≡ s + n) ⊎ (K r ≤ℤ K (r + 1))

module _ (K : ℕ → ℤ) where
  -- the search stops there
  settle_settles : (n s : ℕ) → Settles K s n (settle K n s)
  settle_settles zero s = record { from = omega arith; to = omega arith; falls = λ k a b. absurd (omega arith); stops = inl (omega arith) }
  settle_settles (suc n) s = by (le_z (K s) (K (s + 1))) refl (settle_settles n (s + 1))
    where
      also_here : (r k : ℕ) → K (s + 1) <ℤ K s → (s + 1 ≤ k → k < r → K (k + 1) <ℤ K k) → s ≤ k → k < r → K (k + 1) <ℤ K k
      also_here r k here later a b = ⊎_elim (λ lt. later (omega arith) b) (λ ge. let same : k ≡ s = omega arith in rw same here) (cases_lt s k)

      by : (b : Bool) → le_z (K s) (K (s + 1)) ≡ b → Settles K (s + 1) n (settle K n (s + 1)) → Settles K s (suc n) (cond b s (settle K n (s + 1)))
      by true t rest = record { from = omega arith; to = omega arith; falls = λ k a b. absurd (omega arith); stops = inr (omega (arith, ints)) }
      by false t rest = record {
        from = omega arith;
        to = omega arith;
        falls = λ k. also_here (settle K n (s + 1)) k (omega (arith, ints)) (rest.falls k);
        stops = ⊎_elim (λ e. inl (omega arith)) inr rest.stops;
      }

  not_before : (s n r q : ℕ) → Settles K s n r → Settles K s n q → r < q → ⊥
  not_before s n r q h k lt =
      let fall : K (r + 1) <ℤ K r = k.falls r h.from lt in
      ⊎_elim (λ e. omega arith) (λ stop. omega (arith, ints)) h.stops

  -- there is one such place
  settles_once : (s n r q : ℕ) → Settles K s n r → Settles K s n q → r ≡ q
  settles_once s n r q h k =
      ⊎_elim (λ e. e) (⊎_elim (λ lt. absurd (not_before s n r q h k lt)) (λ gt. absurd (not_before s n q r k h gt))) (cases_order r q)

  pub first_settles : (low high : ℕ) → Settles K low (high - low) (first_settled K low high)
  unfolding first_settled
  first_settles low high = settle_settles (high - low) low

  pub first_is : (low high r : ℕ) → Settles K low (high - low) r → r ≡ first_settled K low high
  first_is low high r h = settles_once low (high - low) r (first_settled K low high) h (first_settles low high)

  -- a charge that falls at every kW from low to r is dearer below r
  falls_to : (low r : ℕ) → ((k : ℕ) → low ≤ k → k < r → K (k + 1) <ℤ K k) → (n s : ℕ) → low ≤ s → r ≡ (s + n) + 1 → K r <ℤ K s
  falls_to low r falls zero s h e = let next : r ≡ s + 1 = omega arith in rw next (falls s (omega arith) (omega arith))
  falls_to low r falls (suc n) s h e =
      let rest : K r <ℤ K (s + 1) = falls_to low r falls n (s + 1) (omega arith) (omega arith) in
      let here : K (s + 1) <ℤ K s = falls s (omega arith) (omega arith) in
      omega (arith, ints)

-- the first settled kW is the cheapest from low to high, and the first of the cheapest
pub settled_lowest : (K : ℕ → ℤ) (top low high s : ℕ) → Convex top K → high ≤ top → low ≤ s → s ≤ high → (K (first_settled K low high) ≤ℤ K s) × (K s ≡ K (first_settled K low high) → first_settled K low high ≤ s)
settled_lowest K top low high s convex within ge le = by (first_settled K low high) (first_settles K low high)
  where
    by : (r : ℕ) → Settles K low (high - low) r → (K r ≤ℤ K s) × (K s ≡ K r → r ≤ s)
    by r h =
        ⊎_elim
        (λ (under : s < r). let dearer : K r <ℤ K s = falls_to K low r h.falls (r - s - 1) s ge (omega arith) in (omega (arith, ints), λ e. absurd (omega (arith, ints))))
        (λ (over : r ≤ s). (⊎_elim (λ (e : r ≡ low + (high - low)). let same : s ≡ r = omega arith in rw same (omega (arith, ints))) (rises_after K top convex (s - r) r s (omega arith) (omega arith)) h.stops, λ _. over))
        (cases_lt s r)
