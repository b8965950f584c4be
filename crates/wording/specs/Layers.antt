-- The names of the layers, as they are printed.
use Rattle.std.specs.Prelude.{ℕ, List, codes}
use Rattle.refusals.specs.declared.Refusal.{Refusal}
use Rattle.refusals.specs.declared.Refusal.TheVariants.{Line, Frame, Book, Tariff}

abbrev pub layer_name : Refusal → List ℕ
layer_name (Line _) = codes "line"
layer_name (Frame _) = codes "frame"
layer_name (Book _) = codes "book"
layer_name (Tariff _) = codes "tariff"
