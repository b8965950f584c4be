-- Parts of memory that may be shorter than a year.
use Rattle.std.proofs.Common.{◌≡◌, ℕ, ◌-◌, ◌≤◌, min, List, [], ◌++◌, length, take, drop, replicate, sym, ap, ◌∙◌, ap₂, inl, inr, arith}
use Rattle.std.proofs.lemmas.List.{drop_all, length-drop, take_all}
use Rattle.std.proofs.lemmas.Bool.{cases_lt}
use Rattle.hours.specs.Presence.{cleared}

-- a part that ends at the end of a list that is too short for it
pub clipped : {X : Type 0} (xs : List X) (f e f' e' : ℕ) → f ≤ e → e' ≡ min e (length xs) → f' ≡ min f e'
    → take (e' - f') (drop f' xs) ≡ take (e - f) (drop f xs)
clipped {X} xs f e f' e' le ee ef = elim (cases_lt e (length xs)) [
  | inl lt ↦
      let same_end : e' ≡ e = omega arith in
      let same_first : f' ≡ f = omega arith in
      ap₂ (λ (a b : ℕ). take (a - b) (drop b xs)) same_end same_first
  | inr long ↦
      let at_end : e' ≡ length xs = omega arith in
      elim (cases_lt f (length xs)) [
        | inl lt ↦
            let same_first : f' ≡ f = omega arith in
            let left : length (drop f xs) ≤ e' - f = simp length-drop (omega arith) in
            let right : length (drop f xs) ≤ e - f = simp length-drop (omega arith) in
            ap (λ (a : ℕ). take (e' - a) (drop a xs)) same_first ∙ take_all (e' - f) (drop f xs) left ∙ sym (take_all (e - f) (drop f xs) right)
        | inr past ↦
            let none : drop f' xs ≡ [] = drop_all f' xs (omega arith) in
            let none' : drop f xs ≡ [] = drop_all f xs past in
            ap (take (e' - f')) none ∙ nothing (e' - f') (e - f) ∙ sym (ap (take (e - f)) none')
      ]
]
  where
    nothing : (m n : ℕ) → take {A = X} m [] ≡ take n []
    nothing m n = take_all m [] (omega arith) ∙ sym (take_all n [] (omega arith))

-- the words of a year are cleared, as far as they are lent
pub clears : (words : List ℕ) (n : ℕ) → n ≡ min (length words) 138 → replicate n 0 ++ drop n words ≡ cleared words
unfolding cleared
clears words n e = elim (cases_lt (length words) 138) [
  | inl lt ↦
      let few : n ≡ min 138 (length words) = omega arith in
      ap₂ (λ (k : ℕ) (rest : List ℕ). replicate k 0 ++ rest) few (drop_all n words (omega arith) ∙ sym (drop_all 138 words (omega arith)))
  | inr ge ↦
      let few : n ≡ min 138 (length words) = omega arith in
      let all : n ≡ 138 = omega arith in
      ap₂ (λ (k j : ℕ). replicate k 0 ++ drop j words) few all
]
