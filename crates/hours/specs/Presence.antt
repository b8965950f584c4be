-- The presence words: the bit of an hour, and what is asked of the bits of a part of the year.
use Rattle.std.specs.Prelude.{ℕ, zero, suc, ◌+◌, ◌/◌, ◌%◌, ◌^◌, min, Bool, cond, List, ◌++◌, length, drop, replicate, Some, None, Option, ◌==◌, bit_or, slice_index, slice_set}

-- bit h mod 64, 0 the lowest, of word h div 64 is one
unfoldable pub present : List ℕ → ℕ → Bool
present words h = slice_index words (h / 64) / 2 ^ (h % 64) % 2 == 1

-- the words once that bit is one
unfoldable pub marked : List ℕ → ℕ → List ℕ
marked words h = slice_set words (h / 64) (bit_or (slice_index words (h / 64)) (2 ^ (h % 64)))

-- the words of a year are zero: 138 of them, or all if there are fewer
unfoldable pub cleared : List ℕ → List ℕ
cleared words = replicate (min 138 (length words)) 0 ++ drop 138 words

-- the first of n hours from h on that is not there
abbrev pub first_absent : (ℕ → Bool) → ℕ → ℕ → Option ℕ
first_absent there h zero = None
first_absent there h (suc n) = cond (there h) (first_absent there (suc h) n) (Some h)

-- how many of n hours from h on are there
abbrev pub count : (ℕ → Bool) → ℕ → ℕ → ℕ
count there h zero = 0
count there h (suc n) = cond (there h) 1 0 + count there (suc h) n
