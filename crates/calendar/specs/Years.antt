-- Which years and months there are, and the answer to a question that is out of range: none.
use Rattle.std.specs.Prelude.{ℕ, Bool, true, false, ◌&&◌, Some, None, Option, nat_le}

-- the years that the calendar serves
abbrev pub served : ℕ → Bool
served y = nat_le 2002 y && nat_le y 2299

abbrev pub is_month : ℕ → Bool
is_month m = nat_le 1 m && nat_le m 12

-- the answer x where the question is in range
abbrev pub provided : {X : Type 0} → Bool → X → Option X
provided true x = Some x
provided false x = None
