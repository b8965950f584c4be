-- The hours before the end of March and from the end of October on are those of the winter months.
use Rattle.std.proofs.Common.{arith}
use Rattle.std.proofs.lemmas.Bool.Decides.{nat_tests}
use Rattle.calendar.proofs.MonthLaws.{winter_is}
use Rattle.calendar.proofs.hour.HourOfYear.is_winter.Goals as goal

pub returns : goal.returns
returns c =
    let k = c.args.self.calendar.now in
    let march = k.ends 3 (omega arith) in
    let october = k.ends 10 (omega arith) in
    let e = winter_is k.year.number c.args.self.number c.args.self.within in
    record { winter = grind (arith, nat_tests) }
