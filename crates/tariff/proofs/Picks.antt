-- That the least charge of the choices' advice, the first of equals, is the best of the definitions: how `min_by_key` picks is how
-- the choices are compared one by one. Assumes nothing.
use Rattle.std.proofs.Common.{◌≡◌, ℕ, zero, suc, ◌+◌, ◌<◌, ◌≤◌, Bool, true, false, cond, ℤ, ◌<ℤ◌, List, [], ◌∷◌, Some, None, Option, Bor, sym, refl, ap, ◌∙◌, subst, ⊎_elim, int_cmp, arith, ltb}
use lib.Signed.{le_z}
use denote.Param.Members.{Mut}
use Rattle.std.specs.Fn.{CalledAt}
use Rattle.std.specs.Iterator.{KeyTurn, PicksMinByKey}
use Rattle.std.specs.List.{cons_option, fold, reduce, filter_map, FoldsTo, range_with_len}
use Rattle.std.specs.Ordering.{MatchOrdering, min_by_ordering}
use Rattle.std.specs.declared.cmp.Ordering.{Ordering}
use Rattle.std.specs.declared.cmp.Ordering.TheVariants.{Less, Equal, Greater}
use Rattle.std.proofs.lemmas.Bool.{and_from, and_parts, both_ways, cases_Bool, cond-true, cond-false, lt-ltb}
use Rattle.std.proofs.lemmas.Cmp.{int_ranked}
use Rattle.std.proofs.lemmas.Int.{ints}
use Rattle.std.proofs.lemmas.Iterator.{YieldsList}
use Rattle.std.proofs.lemmas.Iterator.Consumers.{reduce_from_yields_List}
use Rattle.tariff.specs.declared.advice.Advice.{Advice}
use Rattle.tariff.specs.Questions.{allowed}
use Rattle.tariff.specs.Advised.{settled_advice, better_of, best_below}
use Rattle.tariff.proofs.Best.{best_none, best_take, best_skip}

abbrev cheaper : Advice → Advice → Advice
cheaper best next = better_of (Some best) next

-- how `min_by_key` picks by the charge
pick : (x z : Advice) (o : Ordering) → o ≡ int_cmp x.charge z.charge → min_by_ordering o x z ≡ cheaper x z
pick x z o e = by o (int_ranked x.charge z.charge o e)
  where
    by : (o : Ordering) → MatchOrdering o (x.charge <ℤ z.charge) (x.charge ≡ z.charge) (z.charge <ℤ x.charge) → min_by_ordering o x z ≡ cheaper x z
    by Less r = ⊎_elim (λ t. sym (cond-true _ x z t)) (λ t. absurd (omega (arith, ints))) (cases_Bool (le_z x.charge z.charge))
    by Equal r = ⊎_elim (λ t. sym (cond-true _ x z t)) (λ t. absurd (omega (arith, ints))) (cases_Bool (le_z x.charge z.charge))
    by Greater r = ⊎_elim (λ t. absurd (omega (arith, ints))) (λ t. sym (cond-false _ x z t)) (cases_Bool (le_z x.charge z.charge))

its_key : (x z : Advice) (a b : ℤ) (o : Ordering) → a ≡ x.charge → b ≡ z.charge → min_by_ordering o a b ≡ (min_by_ordering o x z).charge
its_key x z a b Less p q = p
its_key x z a b Equal p q = p
its_key x z a b Greater p q = q

module _ {F : Type 0} (g : Mut F (Bor Advice × Unit {0}) ℤ) (f : F) (key : (x : Advice) (a : ℤ) (q : F) → CalledAt g f x a q → (q ≡ f) × (a ≡ x.charge)) where
  turns : (p q : F × ℤ) (x y : Advice) (xs : List Advice) → p.0 ≡ f → p.1 ≡ x.charge → FoldsTo {P = (F × ℤ) × Advice} (KeyTurn min_by_ordering min_by_ordering g int_cmp) (p, x) xs (q, y)
      → FoldsTo (λ p z c. c ≡ cheaper p z) x xs y
  turns p q x y [] same a h = ap (λ w. w.1) h
  turns p q x y (z ∷ zs) same a h =
      let b = key z h.1.0 h.0.0.0 (subst (λ w. CalledAt g w z h.1.0 h.0.0.0) same h.1.2) in
      let order : h.1.1 ≡ int_cmp x.charge z.charge = sym h.1.3 ∙ (λ i. int_cmp (a i) (b.1 i)) in
      let next = h.1.4 ∙ its_key x z p.1 h.1.0 h.1.1 a b.1 ∙ ap (λ w. w.charge) (sym h.1.5) in
      (h.0.1, h.1.5 ∙ pick x z h.1.1 order, turns h.0.0 q h.0.1 y zs b.0 next h.2)

  pub least_picked : {S : Type 0} {steps : S → Option Advice → S → Type 0} {all : List Advice} (s : S) (r : Option Advice) → PicksMinByKey steps g int_cmp s f r → YieldsList steps (λ y. y) s all → r ≡ reduce cheaper all
  least_picked s None h e = reduce_from_yields_List cheaper s None h e
  least_picked s (Some y) h e =
      let first = key h.0 h.2 h.3 h.6 in
      reduce_from_yields_List cheaper s (Some y) (h.0, h.1, h.5, turns (h.3, h.2) h.4 h.0 y h.1 first.0 first.1 h.7) e

module _ (n : ℕ) (permitted : ℕ → Bool) (K : ℕ → ℕ → ℤ) (low high : ℕ) where
  -- the advice of a choice, where it is permitted
  abbrev pub offer : ℕ → Option Advice
  offer c = cond (allowed n permitted c) (Some (settled_advice K low high c)) None

  abbrev best : ℕ → Option Advice
  best m = best_below permitted K low high m

  -- the best of o and xs
  abbrev onward : Option Advice → List Advice → Option Advice
  onward None xs = reduce cheaper xs
  onward (Some b) xs = Some (fold cheaper b xs)

  ends : (o : Option Advice) → onward o [] ≡ o
  ends None = refl
  ends (Some b) = refl

  takes : (o : Option Advice) (x : Advice) (xs : List Advice) → onward o (x ∷ xs) ≡ onward (Some (better_of o x)) xs
  takes None x xs = refl
  takes (Some b) x xs = refl

  offered : (c : ℕ) → c < n → permitted c ≡ true → offer c ≡ Some (settled_advice K low high c)
  offered c lt p = cond-true (allowed n permitted c) _ _ (and_from (ltb c n) (permitted c) (lt-ltb c n lt) p)

  withheld : (c : ℕ) → permitted c ≡ false → offer c ≡ None
  withheld c p = cond-false (allowed n permitted c) _ _ (⊎_elim (λ t. absurd (both_ways (permitted c) p (and_parts (ltb c n) (permitted c) t).1)) (λ e. e) (cases_Bool (allowed n permitted c)))

  from : (m a : ℕ) (o : Option Advice) → a + m ≤ n → best a ≡ o → onward o (filter_map offer (range_with_len a m)) ≡ best (a + m)
  from zero a o le e = let same : a ≡ a + 0 = omega arith in ends o ∙ sym e ∙ ap best same
  from (suc m) a o le e =
      let rest : List Advice = filter_map offer (range_with_len (a + 1) m) in
      let same : (a + 1) + m ≡ a + suc m = omega arith in
      ⊎_elim
      (λ yes. ap (λ (w : Option Advice). onward o (cons_option w rest)) (offered a (omega arith) yes) ∙ takes o (settled_advice K low high a) rest
      ∙ from m (a + 1) (Some (better_of o (settled_advice K low high a))) (omega arith) (best_take permitted K low high a yes ∙ ap (λ (w : Option Advice). Some (better_of w (settled_advice K low high a))) e) ∙ ap best same)
      (λ no. ap (λ (w : Option Advice). onward o (cons_option w rest)) (withheld a no) ∙ from m (a + 1) o (omega arith) (best_skip permitted K low high a no ∙ e) ∙ ap best same)
      (cases_Bool (permitted a))

  pub best_picked : reduce cheaper (filter_map offer (range_with_len 0 n)) ≡ best_below permitted K low high n
  best_picked = let same : 0 + n ≡ n = omega arith in from n 0 None (omega arith) (best_none permitted K low high) ∙ ap best same
