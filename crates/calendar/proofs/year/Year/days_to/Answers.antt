-- The days are summed over the months up to the given one.
use Rattle.std.proofs.Common.{rules, ◌≡◌, ℕ, ◌+◌, ◌∙◌, refl, arith}
use Rattle.std.proofs.lemmas.Iterator.{YieldsList-from_range, YieldsList-from_map}
use Rattle.std.proofs.lemmas.Iterator.Consumers.{YieldsList-at, sum_from_yields_List, fits_from_yields_list}
use Rattle.calendar.specs.Days.{month_days, days_to}
use Rattle.calendar.proofs.DayLaws.{days_to_sum, days_to_high}
use Rattle.calendar.proofs.year.Year.days_to.Goals as goal

pub sum-requires-clause-fits : goal.sum-requires-clause-fits
sum-requires-clause-fits c =
    let y : ℕ = c.args.self.number in
    let m : ℕ = c.args.month in
    fits_from_yields_list c.map.result _
    (YieldsList-from_map _ (λ k. month_days y (k + 1)) (YieldsList-at c.map.ensures.source (YieldsList-from_range 0 m m refl (omega arith))) c.map.ensures.closure (λ x r q k. search rules))
    (omega (arith, days_to_sum y m, days_to_high y m c.requires))

pub returns : goal.returns
returns c =
    let y : ℕ = c.args.self.number in
    let m : ℕ = c.args.month in
    let e : c.sum.result ≡ days_to y m =
    sum_from_yields_List c.map.result c.sum.result c.sum.ensures.ran
    (YieldsList-from_map _ (λ k. month_days y (k + 1)) (YieldsList-at c.map.ensures.source (YieldsList-from_range 0 m m refl (omega arith))) c.map.ensures.closure (λ x r q k. search rules))
    ∙ days_to_sum y m in
    record { days = e; at_most = omega (arith, days_to_high y m c.requires) }
