-- `ones_from` needs no mask for a whole word.
use Rattle.std.proofs.Common.{◌≡◌, ℕ, ◌*◌, ◌/◌, ◌%◌, ◌^◌, ◌<◌, ◌≤◌, sym, ap, ◌∙◌, lt_of_lt_of_le, mod-eq_of_lt, arith, pow_mono}
use lib.Count.{ones}
use Rattle.std.proofs.Math.Pow.{pow-lt}
use Rattle.std.proofs.lemmas.Nat.{mod_below, ones-le, pow_pos, shr_le}
use Rattle.hours.proofs.presence.ones_from.Goals as goal

pub returns-else-n-lt64 : goal.returns-else-n-lt64
returns-else-n-lt64 c =
    let x : ℕ = c.args.word / 2 ^ c.args.low in
    let le = shr_le c.args.word c.args.low in
    let fits : c.args.word < 2 ^ 64 = c.ranges.word.fits in
    let below : x < 2 ^ 64 = omega arith in
    let power : 2 ^ 64 ≤ 2 ^ c.args.n = pow_mono c.if-n-lt64.false in
    let few = ones-le 64 x below in
    record { ones = ap ones (sym (mod-eq_of_lt (lt_of_lt_of_le below power))); at_most = omega arith }

-- the n lowest bits of x have at most n ones
few_ones : (x n : ℕ) → n < 64 → ones (x % (1 * 2 ^ n % 2 ^ 64)) ≤ n
few_ones x n lt =
    let small : 2 ^ n < 2 ^ 64 = pow-lt lt in
    let one : 1 * 2 ^ n ≡ 2 ^ n = omega arith in
    let is : 1 * 2 ^ n % 2 ^ 64 ≡ 2 ^ n = ap (λ (m : ℕ). m % 2 ^ 64) one ∙ mod-eq_of_lt small in
    ones-le n _ (rw is (mod_below x (2 ^ n) (pow_pos n)))

pub returns-then-n-lt64-clause-at_most : goal.returns-then-n-lt64-clause-at_most
returns-then-n-lt64-clause-at_most c = few_ones (c.args.word / 2 ^ c.args.low) c.args.n c.if-n-lt64.true
