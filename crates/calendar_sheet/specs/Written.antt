-- A year as it is written on the command line: four digits, and a year that the calendar serves.
use Rattle.std.specs.Prelude.{ℕ, ◌+◌, ◌-◌, ◌*◌, Bool, ◌&&◌, List, length, Option, ◌==◌, nat_le, slice_index}
use Rattle.calendar.specs.Years.{served, provided}

-- '0' is 48 and '9' is 57
abbrev pub is_digit : ℕ → Bool
is_digit b = nat_le 48 b && nat_le b 57

abbrev pub at : List ℕ → ℕ → ℕ
at text k = slice_index text k

abbrev pub four_digits : List ℕ → Bool
four_digits text =
    (length text == 4) && is_digit (at text 0) && is_digit (at text 1) && is_digit (at text 2) && is_digit (at text 3)

abbrev pub value : List ℕ → ℕ
value text = 1000 * (at text 0 - 48) + 100 * (at text 1 - 48) + 10 * (at text 2 - 48) + (at text 3 - 48)

abbrev pub year_written : List ℕ → Option ℕ
year_written text = provided (four_digits text && served (value text)) (value text)
