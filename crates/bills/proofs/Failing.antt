-- The first row that fails a test: where a search finds it, and that all rows pass where there is none.
use Rattle.std.proofs.Common.{◌≡◌, ℕ, zero, suc, Bool, true, false, cond, not, List, [], ◌∷◌, get_or, Option, Some, None, refl, sym, ap, ◌∙◌, inl, inr, add-one, arith}
use Rattle.std.specs.List.{position_from}
use Rattle.std.proofs.lemmas.Bool.{cases_Bool}
use Rattle.bills.specs.Ranges.{first_failing}

turned : {X : Type 0} (t : Bool) (a b : X) → cond (not t) a b ≡ cond t b a
turned true a b = refl
turned false a b = refl

pub failing_position : {X : Type 0} (test : X → Bool) (n : ℕ) (rows : List X) → position_from (λ x. not (test x)) n rows ≡ first_failing test n rows
failing_position test n [] = refl
failing_position test n (row ∷ rows) =
    ap (λ (o : Option ℕ). cond (not (test row)) (Some n) o) (ap (λ (k : ℕ). position_from (λ x. not (test x)) k rows) (add-one n) ∙ failing_position test (suc n) rows)
    ∙ turned (test row) (Some n) (first_failing test (suc n) rows)

-- where none fails, the first passes, and none of the others fails
pass_first : {X : Type 0} (test : X → Bool) (n : ℕ) (row : X) (rows : List X) → first_failing test n (row ∷ rows) ≡ None → (test row ≡ true) × (first_failing test (suc n) rows ≡ None)
pass_first test n row rows none = elim (cases_Bool (test row)) [
  | inl passes ↦ (passes, sym (ap (λ (t : Bool). cond t (first_failing test (suc n) rows) (Some n)) passes) ∙ none)
  | inr fails ↦
      let found : Some n ≡ None = sym (ap (λ (t : Bool). cond t (first_failing test (suc n) rows) (Some n)) fails) ∙ none in
      let z : ◌≡◌ {A = ℕ} 0 1 = cc in absurd (omega arith)
]

pub all_pass : {X : Type 0} (test : X → Bool) (d : X) (n : ℕ) (rows : List X) → test d ≡ true → first_failing test n rows ≡ None → (k : ℕ) → test (get_or rows k d) ≡ true
all_pass test d n [] blank none k = blank
all_pass test d n (row ∷ rows) blank none zero = (pass_first test n row rows none).0
all_pass test d n (row ∷ rows) blank none (suc k) = all_pass test d (suc n) rows blank (pass_first test n row rows none).1 k
