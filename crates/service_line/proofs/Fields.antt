-- Fields of two bytes: a number that is written reads back, and bytes that are read are written back.
use Rattle.std.proofs.Common.{◌≡◌, ℕ, ◌+◌, ◌*◌, ◌/◌, ◌%◌, ◌^◌, ◌<◌, [], ◌∷◌, ℤ, ap, ◌∙◌, arith, w16, SFits, to_z, of_z}
use Rattle.std.proofs.lemmas.Int.{ints, of_z-to_z, to_z-of_z}
use Rattle.service_line.specs.Formats.{field2, signed2}

pub read_back2 : (n : ℕ) → n < 2 ^ 16 → n / 256 % 256 * 256 + n % 256 ≡ n
read_back2 n small = omega arith

pub signed_back2 : (n : ℤ) → SFits w16 n → to_z w16 (of_z w16 n / 256 % 256 * 256 + of_z w16 n % 256) ≡ n
signed_back2 n fits =
    let small : of_z w16 n < 2 ^ 16 = omega (arith, ints) in
    ap (to_z w16) (read_back2 (of_z w16 n) small) ∙ to_z-of_z w16 n fits

module _ (high low : ℕ) (h : high < 256) (l : low < 256) where
  pub written_back2 : field2 (high * 256 + low) ≡ high ∷ low ∷ []
  written_back2 =
      let e : (high * 256 + low) / 256 % 256 ≡ high = omega arith in
      let f : (high * 256 + low) % 256 ≡ low = omega arith in
      cc

  pub signed_written_back2 : signed2 (to_z w16 (high * 256 + low)) ≡ high ∷ low ∷ []
  signed_written_back2 =
      let small : high * 256 + low < 2 ^ 16 = omega arith in
      ap field2 (of_z-to_z w16 (high * 256 + low) small) ∙ written_back2
