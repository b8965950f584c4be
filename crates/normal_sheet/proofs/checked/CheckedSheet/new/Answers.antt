-- A sheet that passed the test is in order.
use Rattle.std.proofs.Common.{is_ok, Result, sym, ap}
use Rattle.refusals.specs.declared.tariff.TariffRefusal.{TariffRefusal}
use Rattle.normal_sheet.specs.Ranges.{in_order}
use Rattle.normal_sheet.proofs.checked.CheckedSheet.new.Goals as goal

pub invariant_of-result : goal.invariant_of-result
unfolding in_order
invariant_of-result c = record { checked = sym (ap (λ (r : Result (Unit {0}) TariffRefusal). is_ok r) c.in_ok-check.ensures.answer) }
