-- The amounts of an invoice: the bytes of each, one amount after the other.
use Rattle.std.proofs.Common.{◌≡◌, ℕ, suc, ◌<◌, List, [], ◌∷◌, ◌++◌, length, get_or, ℤ, pos, refl, ap₂, arith}
use Rattle.std.specs.List.{flat_map}
use Rattle.service_line.specs.Formats.{signed8, signed8s}

pub amounts_written : (ns : List ℤ) (parts : List (List ℕ)) → length parts ≡ length ns → ((i : ℕ) → i < length ns → get_or parts i [] ≡ signed8 (get_or ns i (pos 0)))
    → flat_map (λ x. x) parts ≡ signed8s ns
amounts_written [] [] long each = refl
amounts_written [] (part ∷ parts) long each = absurd (omega arith)
amounts_written (n ∷ ns) [] long each = absurd (omega arith)
amounts_written (n ∷ ns) (part ∷ parts) long each =
    ap₂ ◌++◌ (each 0 (omega arith)) (amounts_written ns parts (omega arith) (λ i lt. each (suc i) (omega arith)))
