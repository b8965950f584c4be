-- The amounts of a year are those of its list of values, since its months are.
use Rattle.std.proofs.Common.{map}
use Rattle.hours.specs.Values.{limited}
use Rattle.bills.specs.Months.{month_in, month_totals}
use Rattle.normal_tariff.proofs.Amounts.{amounts_alike}
use Rattle.normal_tariff.proofs.year.NormalYear.new.Goals as goal

pub returns-clause-amounts : goal.returns-clause-amounts
returns-clause-amounts c =
    amounts_alike c.args.sheet.sheet c.args.extras (month_in c.new-months.result.months)
    (month_totals c.args.calendar.now.year.number (map limited c.args.records.now)) c.new-months.ensures.months
