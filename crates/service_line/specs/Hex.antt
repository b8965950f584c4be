-- Hexadecimal text: which characters are digits, and bytes as text, two digits to each.
use Rattle.std.specs.Prelude.{ℕ, ◌+◌, ◌-◌, ◌/◌, ◌%◌, cond, ◌&&◌, List, [], ◌∷◌, Some, None, Option, nat_le, nat_lt}

-- the value of a character: 0 to 9 and A to F are digits, and no other
abbrev pub value_of : ℕ → Option ℕ
value_of c = cond (nat_le 48 c && nat_le c 57) (Some (c - 48)) (cond (nat_le 65 c && nat_le c 70) (Some (c - 55)) None)

-- the digit of a value below 16
abbrev pub digit_of : ℕ → ℕ
digit_of v = cond (nat_lt v 10) (48 + v) (55 + v)

-- the text of bytes: for each its high digit, then its low one
abbrev pub text_of : List ℕ → List ℕ
text_of [] = []
text_of (b ∷ bs) = digit_of (b / 16) ∷ digit_of (b % 16) ∷ text_of bs
