-- The check: it closes a body to a multiple of 256, and only it does.
use Rattle.std.proofs.Common.{◌≡◌, ℕ, ◌+◌, ◌%◌, ◌<◌, List, [], ◌∷◌, ◌++◌, ap, arith}
use Rattle.std.specs.List.{fold}
use Rattle.service_line.specs.Formats.{check_of, frame_of, sum_of}

-- a sum that is kept below 256 at each byte
pub wrapped_sum : (start : ℕ) (bs : List ℕ) → start < 256 → fold (λ sum b. (sum + b) % 256) start bs ≡ (start + sum_of bs) % 256
wrapped_sum start [] small = omega arith
wrapped_sum start (b ∷ bs) small =
    let rest : fold (λ sum b. (sum + b) % 256) ((start + b) % 256) bs ≡ ((start + b) % 256 + sum_of bs) % 256 = wrapped_sum ((start + b) % 256) bs (omega arith) in
    omega arith

sum_push : (bs : List ℕ) (b : ℕ) → sum_of (bs ++ b ∷ []) ≡ sum_of bs + b
sum_push [] b = omega arith
sum_push (x ∷ bs) b = let h : sum_of (bs ++ b ∷ []) ≡ sum_of bs + b = sum_push bs b in omega arith

pub closed : (body : List ℕ) → sum_of (frame_of body) % 256 ≡ 0
closed body = let e : sum_of (frame_of body) ≡ sum_of body + check_of body = sum_push body (check_of body) in omega arith

pub closed_by : (body : List ℕ) (c : ℕ) → c < 256 → sum_of (body ++ c ∷ []) % 256 ≡ 0 → frame_of body ≡ body ++ c ∷ []
closed_by body c small zero =
    let e : sum_of (body ++ c ∷ []) ≡ sum_of body + c = sum_push body c in
    let check : check_of body ≡ c = omega arith in
    ap (λ (b : ℕ). body ++ b ∷ []) check
