-- The table is the computus: the checker computes the rule at each of the 298 years and compares it with the entry.
use Rattle.std.proofs.Common.{◌≡◌, ℕ, ◌+◌, map, get_or, refl, arith}
use Rattle.std.specs.List.{range_with_len}
use Rattle.std.proofs.lemmas.List.FromFn.{get_or-map-range_with_len}
use Rattle.calendar.specs.Easter.{easter}
use Rattle.calendar.proofs.EasterLaws.{easter_high}
use Rattle.calendar.proofs.easter.entry.Goals as goal

pub returns : goal.returns
unfolding easter
returns c =
    let k : ℕ = c.args.place in
    let is : get_or (map easter (range_with_len 2002 298)) k 0 ≡ easter (2002 + k) =
    get_or-map-range_with_len easter 2002 298 k (2002 + k) 0 (omega arith) refl in
    record { computus = is; at_most = omega (arith, is, easter_high (2002 + k)) }
