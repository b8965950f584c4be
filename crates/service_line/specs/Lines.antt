-- The line layer: the bytes that a line's text carries, or why it carries none.
use Rattle.std.specs.Prelude.{ℕ, ◌+◌, ◌*◌, ◌%◌, Bool, cond, not, ◌||◌, List, [], ◌∷◌, length, is_some, Some, None, Ok, Err, Option, Result, ◌==◌, nat_lt}
use Rattle.std.specs.Option.{unwrap_or}
use Rattle.refusals.specs.declared.line.LineRefusal.{LineRefusal}
use Rattle.refusals.specs.declared.line.LineRefusal.TheVariants.{Length, Digit}
use Rattle.service_line.specs.Hex.{value_of}

-- fewer than 4 or more than 64 characters, or an odd number
abbrev pub ill_sized : ℕ → Bool
ill_sized n = nat_lt n 4 || nat_lt 64 n || not (n % 2 == 0)

-- the first column, of those from `column` on, whose character is no digit
abbrev pub first_stranger : ℕ → List ℕ → Option ℕ
first_stranger column [] = None
first_stranger column (c ∷ rest) = cond (is_some (value_of c)) (first_stranger (column + 1) rest) (Some column)

-- two digits make a byte, the high one first
abbrev pub bytes_of : List ℕ → List ℕ
bytes_of [] = []
bytes_of (c ∷ []) = []
bytes_of (high ∷ low ∷ rest) = (unwrap_or (value_of high) 0 * 16 + unwrap_or (value_of low) 0) ∷ bytes_of rest

abbrev pub unless_stranger : Option ℕ → List ℕ → Result (List ℕ) LineRefusal
unless_stranger None bytes = Ok bytes
unless_stranger (Some column) bytes = Err (Digit column)

-- what a line carries: its length is tested first, then its characters
abbrev pub carried : List ℕ → Result (List ℕ) LineRefusal
carried text = cond (ill_sized (length text)) (Err Length) (unless_stranger (first_stranger 1 text) (bytes_of text))
