-- Each hour that passes the test adds one.
use Rattle.std.proofs.Common.{rules, ℕ, ◌-◌, ◌∙◌, cond, refl, arith}
use Rattle.std.proofs.lemmas.Iterator.{YieldsList-from_map, YieldsList-from_range}
use Rattle.std.proofs.lemmas.Iterator.Consumers.{YieldsList-at, fits_from_yields_list, sum_from_yields_List}
use Rattle.calendar.specs.PeakLoad.{peak_load}
use Rattle.calendar.proofs.PeakLoadLaws.{peak_load_hours_high, peak_load_hours_sum}
use Rattle.calendar.proofs.calendar.Calendar.peak_load_hours.Goals as goal

pub sum-requires-clause-fits : goal.sum-requires-clause-fits
sum-requires-clause-fits c =
    let y : ℕ = c.args.self.now.year.number in
    let s = c.args.span in
    let n : ℕ = s.end - s.first in
    fits_from_yields_list c.map.result _
    (YieldsList-from_map _ (λ h. cond (peak_load y h) 1 0) (YieldsList-at c.map.ensures.source (YieldsList-from_range s.first s.end n (search rules) refl)) c.map.ensures.closure (λ x r q k. search rules))
    (omega (arith, peak_load_hours_sum y s.first n, peak_load_hours_high y s.first n))

pub returns : goal.returns
returns c =
    let y : ℕ = c.args.self.now.year.number in
    let s = c.args.span in
    let n : ℕ = s.end - s.first in
    record {
      count = sum_from_yields_List c.map.result c.sum.result c.sum.ensures.ran
          (YieldsList-from_map _ (λ h. cond (peak_load y h) 1 0) (YieldsList-at c.map.ensures.source (YieldsList-from_range s.first s.end n (search rules) refl)) c.map.ensures.closure (λ x r q k. search rules))
          ∙ peak_load_hours_sum y s.first n;
    }
