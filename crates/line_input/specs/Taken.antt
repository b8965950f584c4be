-- What taking in a text byte by byte means, where each newline ends a line.
use Rattle.std.specs.Prelude.{ℕ, List, [], ◌∷◌, ◌++◌, ◌==◌, if◌then◌else◌}
use Rattle.std.specs.Bool.{MatchBool}
use Rattle.std.specs.List.{fold}

-- a newline ends a line, and any other byte is one more of it
abbrev pub Takes : {S : Type 0} → (S → ℕ → S → Type 0) → (S → S → Type 0) → S → ℕ → S → Type 0
Takes pushes ends s byte t = MatchBool (byte == 10) (ends s t) (pushes s byte t)

-- the last byte, or a newline where there is none
abbrev pub last_byte : List ℕ → ℕ
last_byte text = fold (λ _ byte. byte) 10 text

-- the text with a newline behind its last piece, if it has none there
abbrev pub with_last_ended : List ℕ → List ℕ
with_last_ended text = if last_byte text == 10 then text else text ++ 10 ∷ []
