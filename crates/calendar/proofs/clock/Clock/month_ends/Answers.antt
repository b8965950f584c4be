-- A month ends at the midnight after its last day.
use Rattle.std.proofs.Common.{rules, ◌≡◌, ℕ, zero, suc, ◌+◌, ◌<◌, ◌≤◌, List, get_or, subst, ◌∙◌, inl, inr, arith}
use Rattle.std.specs.Array.{IsFromFnResultFrom}
use Rattle.std.specs.Fn.{Mut, Called}
use Rattle.std.proofs.lemmas.Bool.{cases_eq}
use Rattle.calendar.specs.Hours.{month_end}
use Rattle.calendar.proofs.clock.Clock.month_ends.Goals as goal

-- where each call answers h of its number and leaves the closure as it was, the elements are h of their places
each_is : {F : Type 0} (g : Mut F (ℕ × Unit {0}) ℕ) (f : F) (ys : List ℕ) (h : ℕ → ℕ) → ((i y : ℕ) (q : F) → Called g f (i, tt) y q → (q ≡ f) × (y ≡ h i)) → (i n : ℕ) → IsFromFnResultFrom g f ys i n → (k : ℕ) → i ≤ k → k < i + n → get_or ys k 0 ≡ h k
each_is g f ys h same i zero made k low high = absurd (omega arith)
each_is g f ys h same i (suc n) made k low high =
    let s = same i made.1 made.0 made.3 in
    elim (cases_eq k i) [
      | inl e ↦ rw e (made.2.1 0 ∙ s.1)
      | inr later ↦ each_is g f ys h same (i + 1) n (subst (λ q. IsFromFnResultFrom g q ys (i + 1) n) s.0 made.4) k (omega arith) (omega arith)
    ]

pub returns : goal.returns
unfolding month_end
returns c =
    record {
      ends = λ m le. each_is _ _ c.from_fn.result (month_end c.args.self.now.year.number) (λ i y q k. search rules) 0 13 c.from_fn.ensures.items.each m (omega arith) (omega arith);
    }
