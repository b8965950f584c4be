-- The totals of a part, hour by hour: those so far and those of the hours that are left make those of the part.
use Rattle.std.proofs.Common.{◌≡◌, ℕ, suc, ◌+◌, ◌*◌, ◌<◌, ◌≤◌, max, Bool, true, false, cond, not, List, map, length, get_or, drop, ap, ◌∙◌, arith}
use Rattle.std.proofs.lemmas.List.{at_drop_all, at_drop_more}
use Rattle.std.proofs.lemmas.Int.{ints}
use Rattle.calendar.specs.PeakLoad.{peak_load}
use Rattle.hours.specs.declared.record.HourRecord.{HourRecord}
use Rattle.hours.specs.declared.flow.Flow.{Flow}
use Rattle.hours.specs.declared.flow.Flow.TheVariants.{Drawn, FedIn, ReactiveDrawn, ReactiveFedIn}
use Rattle.hours.specs.declared.scan.Totals.{Totals}
use Rattle.hours.specs.declared.scan.Peak.{Peak}
use Rattle.hours.specs.declared.scan.Peak.TheVariants as peak
use Rattle.hours.specs.Totals.{nothing, peak_of, totals_of, with_hour}
use Rattle.hours.specs.Values.{energy_in, flow_of, highest_in, highest_of, limited, other}
use Rattle.hours.proofs.Energies.{energy_more, energy_none}
use Rattle.hours.proofs.Numbered.{blank}

-- a limited value is at most 32,000
flow_most : (f : Flow) (v : HourRecord) → flow_of f (limited v) ≤ 32000
flow_most Drawn v = grind (arith, ints)
flow_most FedIn v = grind (arith, ints)
flow_most ReactiveDrawn v = grind (arith, ints)
flow_most ReactiveFedIn v = grind (arith, ints)

-- the totals t of the hours before hour i of the part, and what its other hours come to
pub record Kept (y first i : ℕ) (hours : List HourRecord) (t : Totals) : Type 0 where
  pub peak_load_kwh : t.peak_load_kwh + energy_in (peak_load y) (first + i) (map limited (drop i hours)) ≡ energy_in (peak_load y) first (map limited hours)
  pub other_kwh : t.other_kwh + energy_in (other (peak_load y)) (first + i) (map limited (drop i hours)) ≡ energy_in (other (peak_load y)) first (map limited hours)
  pub drawn : max t.drawn (highest_of Drawn (map limited (drop i hours))) ≡ highest_of Drawn (map limited hours)
  pub high_load : max t.high_load (highest_in (peak_load y) (first + i) (map limited (drop i hours))) ≡ highest_in (peak_load y) first (map limited hours)
  pub reactive_drawn : max t.reactive_drawn (highest_of ReactiveDrawn (map limited (drop i hours))) ≡ highest_of ReactiveDrawn (map limited hours)
  pub reactive_fed_in : max t.reactive_fed_in (highest_of ReactiveFedIn (map limited (drop i hours))) ≡ highest_of ReactiveFedIn (map limited hours)
  pub energy : t.peak_load_kwh + t.other_kwh ≤ 32000 * i
  pub peaks : (peak : Peak) → peak_of peak t ≤ 32000

module _ (y first : ℕ) (hours : List HourRecord) where
  pub kept_none : Kept y first 0 hours nothing
  kept_none =
      let from : first + 0 ≡ first = omega arith in
      record {
        peak_load_kwh = ap (λ (h : ℕ). 0 + energy_in (peak_load y) h (map limited hours)) from ∙ omega arith;
        other_kwh = ap (λ (h : ℕ). 0 + energy_in (other (peak_load y)) h (map limited hours)) from ∙ omega arith;
        drawn = omega arith;
        high_load = ap (λ (h : ℕ). max 0 (highest_in (peak_load y) h (map limited hours))) from ∙ omega arith;
        reactive_drawn = omega arith;
        reactive_fed_in = omega arith;
        energy = omega arith;
        peaks = at_most;
      }
    where
      at_most : (p : Peak) → peak_of p nothing ≤ 32000
      at_most peak.Drawn = omega arith
      at_most peak.HighLoad = omega arith
      at_most peak.ReactiveDrawn = omega arith
      at_most peak.ReactiveFedIn = omega arith

  module _ (i : ℕ) (lt : i < length hours) where
    abbrev here : HourRecord
    here = limited (get_or hours i blank)

    next : suc (first + i) ≡ first + (i + 1)
    next = omega arith

    highest_more : (f : Flow) → highest_of f (map limited (drop i hours)) ≡ max (flow_of f here) (highest_of f (map limited (drop (i + 1) hours)))
    highest_more f = at_drop_more (λ l. highest_of f (map limited l)) hours i blank lt

    high_load_more : highest_in (peak_load y) (first + i) (map limited (drop i hours)) ≡ max (cond (peak_load y (first + i)) (flow_of Drawn here) 0) (highest_in (peak_load y) (first + (i + 1)) (map limited (drop (i + 1) hours)))
    high_load_more =
        at_drop_more (λ l. highest_in (peak_load y) (first + i) (map limited l)) hours i blank lt
        ∙ ap (λ (h : ℕ). max (cond (peak_load y (first + i)) (flow_of Drawn here) 0) (highest_in (peak_load y) h (map limited (drop (i + 1) hours)))) next

    -- a drawn value counts in one of the two energies
    both : (p : Bool) (n : ℕ) → cond p n 0 + cond (not p) n 0 ≡ n
    both true n = omega arith
    both false n = omega arith

    some : (p : Bool) (n : ℕ) → cond p n 0 ≤ n
    some true n = omega arith
    some false n = omega arith

    pub kept_more : (t : Totals) → Kept y first i hours t → Kept y first (i + 1) hours (with_hour t (peak_load y (first + i)) here)
    kept_more t k =
        let p : Bool = peak_load y (first + i) in
        let split = both p (flow_of Drawn here) in
        let part = some p (flow_of Drawn here) in
        let most : flow_of Drawn here ≤ 32000 = flow_most Drawn (get_or hours i blank) in
        record {
          peak_load_kwh = omega (arith, energy_more (peak_load y) hours first i lt, k.peak_load_kwh);
          other_kwh = omega (arith, energy_more (other (peak_load y)) hours first i lt, k.other_kwh);
          drawn = omega (arith, highest_more Drawn, k.drawn);
          high_load = omega (arith, high_load_more, k.high_load);
          reactive_drawn = omega (arith, highest_more ReactiveDrawn, k.reactive_drawn);
          reactive_fed_in = omega (arith, highest_more ReactiveFedIn, k.reactive_fed_in);
          energy = omega (arith, k.energy);
          peaks = at_most;
        }
      where
        at_most : (q : Peak) → peak_of q (with_hour t (peak_load y (first + i)) here) ≤ 32000
        at_most peak.Drawn = omega (arith, k.peaks peak.Drawn, flow_most Drawn (get_or hours i blank))
        at_most peak.HighLoad = omega (arith, k.peaks peak.HighLoad, some (peak_load y (first + i)) (flow_of Drawn here), flow_most Drawn (get_or hours i blank))
        at_most peak.ReactiveDrawn = omega (arith, k.peaks peak.ReactiveDrawn, flow_most ReactiveDrawn (get_or hours i blank))
        at_most peak.ReactiveFedIn = omega (arith, k.peaks peak.ReactiveFedIn, flow_most ReactiveFedIn (get_or hours i blank))

  same : (a b d e f g a' b' d' e' f' g' : ℕ) → a ≡ a' → b ≡ b' → d ≡ d' → e ≡ e' → f ≡ f' → g ≡ g'
      → ◌≡◌ {A = Totals}
      (record { peak_load_kwh = a; other_kwh = b; drawn = d; high_load = e; reactive_drawn = f; reactive_fed_in = g })
      (record { peak_load_kwh = a'; other_kwh = b'; drawn = d'; high_load = e'; reactive_drawn = f'; reactive_fed_in = g' })
  same a b d e f g a' b' d' e' f' g' p q r s t u = cc

  pub kept_all : (i : ℕ) → length hours ≤ i → (t : Totals) → Kept y first i hours t → t ≡ totals_of y first (map limited hours)
  unfolding totals_of
  kept_all i past t k =
      let none' : (f : Flow) → highest_of f (map limited (drop i hours)) ≡ 0 = λ f. at_drop_all (λ l. highest_of f (map limited l)) hours i past in
      let none'' : highest_in (peak_load y) (first + i) (map limited (drop i hours)) ≡ 0 = at_drop_all (λ l. highest_in (peak_load y) (first + i) (map limited l)) hours i past in
      same _ _ _ _ _ _ _ _ _ _ _ _
      (omega (arith, energy_none (peak_load y) hours first i past, k.peak_load_kwh))
      (omega (arith, energy_none (other (peak_load y)) hours first i past, k.other_kwh))
      (omega (arith, none' Drawn, k.drawn))
      (omega (arith, none'', k.high_load))
      (omega (arith, none' ReactiveDrawn, k.reactive_drawn))
      (omega (arith, none' ReactiveFedIn, k.reactive_fed_in))
