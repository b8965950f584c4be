-- What the private parts of the line layer answer: a digit and a byte.
use Rattle.std.specs.Prelude.{ℕ, ◌+◌, ◌*◌, Ok, Err, Result}
use Rattle.std.specs.Option.{ok_or}
use Rattle.refusals.specs.declared.line.LineRefusal.{LineRefusal}
use Rattle.refusals.specs.declared.line.LineRefusal.TheVariants.{Digit}
use Rattle.service_line.specs.Hex.{value_of}

-- the value of the character c, which stands in this column
abbrev pub digit_at : ℕ → ℕ → Result ℕ LineRefusal
digit_at column c = ok_or (value_of c) (Digit column)

abbrev pub both : Result ℕ LineRefusal → Result ℕ LineRefusal → Result ℕ LineRefusal
both (Err e) low = Err e
both (Ok h) (Err e) = Err e
both (Ok h) (Ok l) = Ok (h * 16 + l)

-- the byte of two characters, of which the first stands in this column
unfoldable pub byte_at : ℕ → ℕ → ℕ → Result ℕ LineRefusal
byte_at column high low = both (digit_at column high) (digit_at (column + 1) low)
