-- 22 March is day 21 after February's end, and Easter is a Sunday in every year that the calendar serves.
use Rattle.std.proofs.Common.{◌≡◌, ℕ, ◌+◌, arith}
use Rattle.calendar.specs.PeakLoad.{easter_sunday_of}
use Rattle.calendar.proofs.EasterLaws.{easter_on_sunday, easter_sunday_low, easter_sunday_high}
use Rattle.calendar.proofs.year.Year.easter_sunday.Goals as goal

pub returns : goal.returns
unfolding easter_sunday_of
returns c =
    let y : ℕ = c.args.self.number in
    let is : c.days_to.result + 21 + c.easter.result ≡ easter_sunday_of y = omega arith in
    record {
      easter = is;
      sunday = rw is (easter_on_sunday y c.args.self.from c.args.self.to);
      at_least = omega (arith, is, easter_sunday_low y);
      at_most = omega (arith, is, easter_sunday_high y);
    }
