-- What is kept of a line that comes in byte by byte: its first 65 bytes.
use Rattle.std.specs.Prelude.{◌≡◌, ℕ, ◌-◌, List, ◌++◌, length, take, replicate}

-- these bytes are the front of the text that came in
abbrev pub Keeps : List ℕ → List ℕ → Type 0
Keeps kept text = kept ≡ take 65 text

-- memory of 65 bytes that begins with these: all others are 0
abbrev pub filled : List ℕ → List ℕ
filled kept = kept ++ replicate (65 - length kept) 0
