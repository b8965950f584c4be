-- Laws of peak-load hours: how their number grows hour by hour, and part by part.
use Rattle.std.proofs.Common.{◌≡◌, ℕ, zero, suc, ◌+◌, ◌≤◌, Bool, true, false, List, ◌∷◌, cond, length, filter, map, sum, subst, sym, ap, ◌∙◌, refl, add-zero, add-one, add-suc, one-add, arith}
use Rattle.std.proofs.lemmas.List.FromFn.{sum_by-map-range_with_len_more}
use Rattle.std.proofs.lemmas.Bool.Decides.{nat_tests}
use Rattle.std.specs.List.{range_with_len}
use Rattle.calendar.specs.PeakLoad.{peak_load, peak_load_hours}

pub peak_load_hours_none : (y h : ℕ) → peak_load_hours y h 0 ≡ 0
unfolding peak_load_hours
peak_load_hours_none y h = refl

pub peak_load_hours_more : (y h n : ℕ) → peak_load_hours y h (n + 1) ≡ peak_load_hours y h n + cond (peak_load y (h + n)) 1 0
unfolding peak_load_hours
peak_load_hours_more y h n = rw add-one

pub peak_load_hours_high : (y h n : ℕ) → peak_load_hours y h n ≤ n
unfolding peak_load_hours
peak_load_hours_high y h zero = omega arith
peak_load_hours_high y h (suc n) = let e = peak_load_hours_high y h n in grind (arith, nat_tests)

-- two consecutive parts have together as many as the whole
pub peak_load_hours_parts : (y h m n : ℕ) → peak_load_hours y h (m + n) ≡ peak_load_hours y h m + peak_load_hours y (h + m) n
unfolding peak_load_hours
peak_load_hours_parts y h m zero = rw (add-zero m) (omega arith)
peak_load_hours_parts y h m (suc n) =
    let e = peak_load_hours_parts y h m n in
    let a : (h + m) + n ≡ h + (m + n) = omega arith in
    rw (add-suc, a) (omega arith)

-- they are the hours of the part that pass the test
pub peak_load_hours_filter : (y h n : ℕ) → length (filter (peak_load y) (range_with_len h n)) ≡ peak_load_hours y h n
unfolding peak_load_hours
peak_load_hours_filter y h zero = refl
peak_load_hours_filter y h (suc n) =
    let rest = peak_load_hours_filter y (h + 1) n in
    let parts : peak_load_hours y h (1 + n) ≡ peak_load_hours y h 1 + peak_load_hours y (h + 1) n = peak_load_hours_parts y h 1 n in
    let here : h + 0 ≡ h = omega arith in
    one_more (peak_load y h) h _ _ _ rest (rw (one-add, here) at parts)
  where
    one_more : (b : Bool) (x : ℕ) (xs : List ℕ) (k all : ℕ) → length xs ≡ k → all ≡ 0 + cond b 1 0 + k → length (cond b (x ∷ xs) xs) ≡ all
    one_more true x xs k all e f = omega arith
    one_more false x xs k all e f = omega arith

-- each hour that passes the test adds one
pub peak_load_hours_sum : (y h n : ℕ) → sum (map (λ k. cond (peak_load y k) 1 0) (range_with_len h n)) ≡ peak_load_hours y h n
peak_load_hours_sum y h zero = sym (peak_load_hours_none y h)
peak_load_hours_sum y h (suc n) =
    let f : ℕ → ℕ = λ k. cond (peak_load y k) 1 0 in
    let more : sum (map f (range_with_len h (n + 1))) ≡ sum (map f (range_with_len h n)) + f (h + n) =
    sum_by-map-range_with_len_more (λ n. n) f h n (h + n) (omega arith) in
    subst (λ (m : ℕ). sum (map f (range_with_len h m)) ≡ peak_load_hours y h m) (add-one n) (more ∙ ap (λ m. m + f (h + n)) (peak_load_hours_sum y h n) ∙ sym (peak_load_hours_more y h n))
