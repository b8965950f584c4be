-- The test of a normal sheet, every row of it: fees, rates and prices (41), then the free percentages (42).
use Rattle.std.specs.Prelude.{Bool, cond, ◌&&◌, List, is_ok, Ok, Err, Result, slice_index_or}
use Rattle.refusals.specs.declared.tariff.TariffRefusal.{TariffRefusal}
use Rattle.refusals.specs.declared.tariff.TariffRefusal.TheVariants.{OutOfRange, Percentage}
use Rattle.bills.specs.Ranges.{fee_fits, first_failing, percentage_fits, price_fits, rate_fits, row_answer, standing_fits, ◌then◌}
use Rattle.normal_sheet.specs.declared.sheet.NormalSheet.{NormalSheet}
use Rattle.normal_sheet.specs.declared.sheet.Row.{Row}
use Rattle.normal_sheet.specs.declared.sheet.Supplement.{Supplement}
use Rattle.normal_sheet.specs.Levels.{no_supplement}

abbrev pub prices_fit : Row → Bool
prices_fit r =
    standing_fits r.standing
    && price_fits r.peak_load_price && price_fits r.other_price
    && rate_fits r.active_excess_rate && rate_fits r.reactive_excess_rate

abbrev pub percentages_fit : Row → Bool
percentages_fit r = percentage_fits r.free_withdrawal && percentage_fits r.free_input

abbrev pub supplement_fits : Supplement → Bool
supplement_fits s = fee_fits s.fixed_fee && rate_fits s.power_rate

-- the supplements' place is 7
abbrev pub supplements_answer : List Supplement → Result (Unit {0}) TariffRefusal
supplements_answer ss = cond (supplement_fits (slice_index_or ss 0 no_supplement) && supplement_fits (slice_index_or ss 1 no_supplement)) (Ok tt) (Err (OutOfRange 7))

abbrev pub sheet_answer : NormalSheet → Result (Unit {0}) TariffRefusal
sheet_answer sheet =
    row_answer OutOfRange (first_failing prices_fit 0 sheet.rows)
    then supplements_answer sheet.supplements
    then row_answer Percentage (first_failing percentages_fit 0 sheet.rows)

unfoldable pub in_order : NormalSheet → Bool
in_order sheet = is_ok (sheet_answer sheet)
