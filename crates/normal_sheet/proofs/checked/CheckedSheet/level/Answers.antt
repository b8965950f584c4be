-- A row and a supplement in their ranges add up within their types.
use Rattle.std.proofs.Common.{◌≡◌, ℕ, ◌+◌, ◌≤◌, true, get_or, ℤ, sym, ap, ◌∙◌, subst, ap₂, arith}
use Rattle.bills.proofs.Sums.{price_back}
use Rattle.normal_sheet.specs.declared.sheet.NormalSheet.{NormalSheet}
use Rattle.normal_sheet.specs.declared.sheet.Row.{Row}
use Rattle.normal_sheet.specs.declared.sheet.Supplement.{Supplement}
use Rattle.normal_sheet.specs.Levels.{level_of, no_row, row_number, supplement_of, with_supplement}
use Rattle.normal_sheet.specs.Ranges.{in_order}
use Rattle.normal_sheet.proofs.Fits.{Bare, added_most, row_bare}
use Rattle.normal_sheet.proofs.checked.CheckedSheet.level.Goals as goal

-- the row and the supplement of a choice are in their ranges
module _ (sheet : NormalSheet) (ok : in_order sheet ≡ true) (choice number : ℕ) (row : Row) (supplement : Supplement)
    (number_is : number ≡ row_number choice) (found : row ≡ get_or sheet.rows number no_row) (added : supplement ≡ supplement_of sheet choice) where
  row_is : row ≡ get_or sheet.rows (row_number choice) no_row
  row_is = found ∙ ap (λ (k : ℕ). get_or sheet.rows k no_row) number_is

  row_in_range : Bare row
  row_in_range = subst Bare (sym row_is) (row_bare sheet ok (row_number choice))

  added_in_range : (supplement.fixed_fee ≤ 1000000000) × (supplement.power_rate ≤ 1000000)
  added_in_range = subst (λ (s : Supplement). (s.fixed_fee ≤ 1000000000) × (s.power_rate ≤ 1000000)) (sym added) (added_most sheet ok choice)

pub overflow_add-result : goal.overflow_add-result
overflow_add-result c =
    let sheet = c.args.self.now in
    let row = (row_in_range sheet.sheet sheet.checked c.args.choice _ _ _ c.row_number.ensures.row c.row_at-row.ensures.row c.supplement-supplement.ensures.supplement).fixed_fee in
    let more = added_in_range sheet.sheet sheet.checked c.args.choice _ _ _ c.row_number.ensures.row c.row_at-row.ensures.row c.supplement-supplement.ensures.supplement in
    omega arith

pub overflow_add-result-2 : goal.overflow_add-result-2
overflow_add-result-2 c =
    let sheet = c.args.self.now in
    let row = (row_in_range sheet.sheet sheet.checked c.args.choice _ _ _ c.row_number.ensures.row c.row_at-row.ensures.row c.supplement-supplement.ensures.supplement).power_rate in
    let more = added_in_range sheet.sheet sheet.checked c.args.choice _ _ _ c.row_number.ensures.row c.row_at-row.ensures.row c.supplement-supplement.ensures.supplement in
    omega arith

-- a row with other prices
at_prices : Row → Supplement → ℤ → ℤ → Row
at_prices r s peak other = record {
  offered = r.offered;
  standing = record {
    fixed_fee = r.standing.fixed_fee + s.fixed_fee;
    power_rate = r.standing.power_rate + s.power_rate;
    extra_rate = r.standing.extra_rate;
  };
  peak_load_price = peak;
  other_price = other;
  active_excess_rate = r.active_excess_rate;
  reactive_excess_rate = r.reactive_excess_rate;
  free_withdrawal = r.free_withdrawal;
  free_input = r.free_input;
}

pub returns : goal.returns
unfolding level_of at_prices
returns c =
    let sheet = c.args.self.now in
    let row = c.row_at-row.result in
    let bare = row_in_range sheet.sheet sheet.checked c.args.choice _ _ _ c.row_number.ensures.row c.row_at-row.ensures.row c.supplement-supplement.ensures.supplement in
    let found = row_is sheet.sheet sheet.checked c.args.choice _ _ _ c.row_number.ensures.row c.row_at-row.ensures.row c.supplement-supplement.ensures.supplement in
    record {
      level =
          ap₂ (at_prices row c.supplement-supplement.result) (price_back row.peak_load_price bare.peak_load_price) (price_back row.other_price bare.other_price)
          ∙ ap₂ with_supplement found c.supplement-supplement.ensures.supplement;
    }
