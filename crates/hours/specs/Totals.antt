-- What a part of the year comes to: energies and highest values, each from the values of its hours.
use Rattle.std.specs.Prelude.{ℕ, ◌+◌, ◌≤◌, max, Bool, cond, not, List}
use Rattle.calendar.specs.PeakLoad.{peak_load}
use Rattle.hours.specs.declared.record.HourRecord.{HourRecord}
use Rattle.hours.specs.declared.flow.Flow.TheVariants as flow
use Rattle.hours.specs.declared.scan.Totals.{Totals}
use Rattle.hours.specs.declared.scan.Peak.{Peak}
use Rattle.hours.specs.declared.scan.Peak.TheVariants.{Drawn, HighLoad, ReactiveDrawn, ReactiveFedIn}
use Rattle.hours.specs.Values.{energy_in, flow_of, highest_in, highest_of, other}

-- the hours from hour h of year y on, which have the values vs
unfoldable pub totals_of : ℕ → ℕ → List HourRecord → Totals
totals_of y h vs = record {
  peak_load_kwh = energy_in (peak_load y) h vs;
  other_kwh = energy_in (other (peak_load y)) h vs;
  drawn = highest_of flow.Drawn vs;
  high_load = highest_in (peak_load y) h vs;
  reactive_drawn = highest_of flow.ReactiveDrawn vs;
  reactive_fed_in = highest_of flow.ReactiveFedIn vs;
}

abbrev pub nothing : Totals
nothing = record { peak_load_kwh = 0; other_kwh = 0; drawn = 0; high_load = 0; reactive_drawn = 0; reactive_fed_in = 0 }

abbrev pub peak_of : Peak → Totals → ℕ
peak_of Drawn t = t.drawn
peak_of HighLoad t = t.high_load
peak_of ReactiveDrawn t = t.reactive_drawn
peak_of ReactiveFedIn t = t.reactive_fed_in

-- one hour more, which is a peak-load hour or none
abbrev pub with_hour : Totals → Bool → HourRecord → Totals
with_hour t peak v = record {
  peak_load_kwh = t.peak_load_kwh + cond peak (flow_of flow.Drawn v) 0;
  other_kwh = t.other_kwh + cond (not peak) (flow_of flow.Drawn v) 0;
  drawn = max t.drawn (flow_of flow.Drawn v);
  high_load = max t.high_load (cond peak (flow_of flow.Drawn v) 0);
  reactive_drawn = max t.reactive_drawn (flow_of flow.ReactiveDrawn v);
  reactive_fed_in = max t.reactive_fed_in (flow_of flow.ReactiveFedIn v);
}

-- at most 8,784 hours of at most 32,000 either way
pub record Within (t : Totals) : Type 0 where
  pub energy : t.peak_load_kwh + t.other_kwh ≤ 281088000
  pub peaks : (peak : Peak) → peak_of peak t ≤ 32000
