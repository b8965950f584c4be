-- `part_totals` takes one hour a turn.
use Rattle.std.proofs.Common.{◌≡◌, ℕ, ◌+◌, Bool, List, map, get_or, sym, ap, ◌∙◌, subst, arith}
use Rattle.calendar.specs.PeakLoad.{peak_load}
use Rattle.hours.specs.declared.record.HourRecord.{HourRecord}
use Rattle.hours.specs.Totals.{totals_of, with_hour}
use Rattle.hours.specs.Values.{limited}
use Rattle.hours.proofs.Numbered.{blank}
use Rattle.hours.proofs.PartTotals.{Kept, kept_all, kept_more, kept_none}
use Rattle.hours.proofs.scan.part_totals.Goals as goal

pub loop-i-init : goal.loop-i-init
loop-i-init c =
    let year : ℕ = c.args.calendar.now.year.number in
    let hours : List HourRecord = c.part-hours.result.now in
    subst (Kept year c.args.span.first 0 hours) (sym c.none-sum.ensures.nothing) (kept_none year c.args.span.first hours)

pub with-sum-requires : goal.with-sum-requires
with-sum-requires c = let few = c.part-hours.ensures.few in record { room = omega (arith, c.loop-i.invariant.energy) }

pub loop-i-preserved : goal.loop-i-preserved
loop-i-preserved c =
    let year : ℕ = c.args.calendar.now.year.number in
    let first : ℕ = c.args.span.first in
    let hours : List HourRecord = c.part-hours.result.now in
    let i : ℕ = c.loop-i.i in
    let next : c.with-sum.result ≡ with_hour c.loop-i.sum (peak_load year (first + i)) (limited (get_or hours i blank)) =
    c.with-sum.ensures.with ∙ ap (λ (p : Bool). with_hour c.loop-i.sum p (limited (get_or hours i blank))) c.is_peak_load.ensures.peak_load in
    subst (Kept year first (i + 1) hours) (sym next) (kept_more year first hours i c.loop-i-test.true c.loop-i.sum c.loop-i.invariant)

pub returns : goal.returns
returns c =
    let year : ℕ = c.args.calendar.now.year.number in
    let first : ℕ = c.args.span.first in
    let hours : List HourRecord = c.part-hours.result.now in
    let few = c.part-hours.ensures.few in
    record {
      totals =
          kept_all year first hours c.loop-i.i c.loop-i-test.false c.loop-i.sum c.loop-i.invariant
          ∙ ap (λ (l : List HourRecord). totals_of year first (map limited l)) c.part-hours.ensures.part;
      within = record { energy = let most = c.loop-i.auto.i-end in omega (arith, c.loop-i.invariant.energy); peaks = c.loop-i.invariant.peaks };
    }
