-- The normal sheets of 2022 for the three areas.
use Rattle.std.specs.Prelude.{ℕ, ◌*◌, true, List, [], ◌∷◌, ℤ, pos, ◌*ℤ◌, neg_ℤ}
use Rattle.book.specs.declared.point.Area.{Area}
use Rattle.book.specs.declared.point.Area.TheVariants.{Norrbotten, MiddleNorrland, Southern}
use Rattle.book.specs.Points.{area_number}
use Rattle.normal_sheet.specs.declared.sheet.NormalSheet.{NormalSheet}
use Rattle.normal_sheet.specs.declared.sheet.Row.{Row}
use Rattle.normal_sheet.specs.declared.sheet.Supplement.{Supplement}
use Rattle.normal_sheet.specs.Levels.{no_row}

-- A row as it is published: fixed fee in thousands of SEK, power in SEK for each kW, energy in tenths of an öre for each kWh,
-- the extra rate in SEK for each kVAr, and what is free in percent. An excess costs twice the rate.
abbrev pub row_of : ℕ → ℕ → ℤ → ℤ → ℕ → ℕ → ℕ → Row
row_of fixed power peak other kvar withdrawal input = record {
  offered = true;
  standing = record { fixed_fee = 100000 * fixed; power_rate = 100 * power; extra_rate = 100 * kvar };
  peak_load_price = pos 10 *ℤ peak;
  other_price = pos 10 *ℤ other;
  active_excess_rate = 200 * power;
  reactive_excess_rate = 200 * kvar;
  free_withdrawal = withdrawal;
  free_input = input;
}

-- an energy price in tenths of an öre; below zero
abbrev pub minus : ℕ → ℤ
minus n = neg_ℤ (pos n)

abbrev pub rows_of : Area → List Row
rows_of Norrbotten =
    row_of 400 106 (pos 32) (minus 17) 20 15 5
    ∷ row_of 1300 121 (pos 34) (minus 13) 30 25 10
    ∷ row_of 100 250 (pos 45) (minus 5) 30 50 15
    ∷ row_of 400 265 (pos 52) (pos 2) 35 50 15
    ∷ row_of 1300 121 (pos 34) (minus 13) 30 25 10
    ∷ no_row
    ∷ row_of 25 265 (pos 98) (pos 50) 35 50 15
    ∷ []
rows_of MiddleNorrland =
    row_of 400 106 (pos 55) (minus 10) 20 15 5
    ∷ row_of 1300 121 (pos 57) (minus 6) 30 25 10
    ∷ row_of 100 250 (pos 68) (pos 2) 30 50 15
    ∷ row_of 400 265 (pos 75) (pos 9) 35 50 15
    ∷ row_of 1300 121 (pos 57) (minus 6) 30 25 10
    ∷ row_of 1600 73 (pos 16) (minus 16) 20 15 5
    ∷ row_of 25 265 (pos 121) (pos 57) 35 50 15
    ∷ []
rows_of Southern =
    row_of 400 106 (pos 90) (pos 20) 20 15 5
    ∷ row_of 1300 121 (pos 92) (pos 24) 30 25 10
    ∷ row_of 100 250 (pos 103) (pos 32) 30 50 15
    ∷ row_of 400 265 (pos 110) (pos 39) 35 50 15
    ∷ row_of 1300 121 (pos 92) (pos 24) 30 25 10
    ∷ row_of 1600 78 (pos 49) (pos 14) 20 15 5
    ∷ row_of 25 265 (pos 156) (pos 87) 35 50 15
    ∷ []

-- SEK 900,000 and SEK 11 for each kW, SEK 1,300,000 and SEK 42 for each kW
abbrev pub supplements : List Supplement
supplements = record { fixed_fee = 90000000; power_rate = 1100 } ∷ record { fixed_fee = 130000000; power_rate = 4200 } ∷ []

abbrev pub sheet_2022 : Area → NormalSheet
sheet_2022 a = record { area = area_number a; rows = rows_of a; supplements = supplements }
