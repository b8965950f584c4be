-- The level of a choice: 0 to 6 are the sheet's rows, 7 and 8 are T1 and T12 with a supplement.
use Rattle.std.specs.Prelude.{ℕ, ◌+◌, false, cond, pos, ◌==◌, slice_index_or}
use Rattle.normal_sheet.specs.declared.sheet.NormalSheet.{NormalSheet}
use Rattle.normal_sheet.specs.declared.sheet.Row.{Row}
use Rattle.normal_sheet.specs.declared.sheet.Supplement.{Supplement}

-- what stands past the last row: it is not offered
abbrev pub no_row : Row
no_row = record {
  offered = false;
  standing = record { fixed_fee = 0; power_rate = 0; extra_rate = 0 };
  peak_load_price = pos 0;
  other_price = pos 0;
  active_excess_rate = 0;
  reactive_excess_rate = 0;
  free_withdrawal = 0;
  free_input = 0;
}

abbrev pub no_supplement : Supplement
no_supplement = record { fixed_fee = 0; power_rate = 0 }

abbrev pub row_number : ℕ → ℕ
row_number c = cond (c == 7) 1 (cond (c == 8) 4 c)

abbrev pub supplement_of : NormalSheet → ℕ → Supplement
supplement_of sheet c =
    cond (c == 7) (slice_index_or sheet.supplements 0 no_supplement) (cond (c == 8) (slice_index_or sheet.supplements 1 no_supplement) no_supplement)

-- a supplement raises fixed fee and power rate alone
abbrev pub with_supplement : Row → Supplement → Row
with_supplement r s = record {
  offered = r.offered;
  standing = record {
    fixed_fee = r.standing.fixed_fee + s.fixed_fee;
    power_rate = r.standing.power_rate + s.power_rate;
    extra_rate = r.standing.extra_rate;
  };
  peak_load_price = r.peak_load_price;
  other_price = r.other_price;
  active_excess_rate = r.active_excess_rate;
  reactive_excess_rate = r.reactive_excess_rate;
  free_withdrawal = r.free_withdrawal;
  free_input = r.free_input;
}

unfoldable pub level_of : NormalSheet → ℕ → Row
level_of sheet c = with_supplement (slice_index_or sheet.rows (row_number c) no_row) (supplement_of sheet c)
