-- What an hour's record counts as, and what is asked of a list of values: highest values and energies.
use Rattle.std.specs.Prelude.{ℕ, suc, ◌+◌, max, Bool, cond, not, List, [], ◌∷◌, map, ℤ, pos, negsuc, neg_ℤ, int_lt}
use Rattle.std.specs.List.{between}
use Rattle.calendar.specs.declared.span.Span.{Span}
use Rattle.hours.specs.declared.record.HourRecord.{HourRecord}
use Rattle.hours.specs.declared.flow.Flow.{Flow}
use Rattle.hours.specs.declared.flow.Flow.TheVariants.{Drawn, FedIn, ReactiveDrawn, ReactiveFedIn}

-- a value beyond 32,000 either way counts as the nearer limit
abbrev pub limit : ℤ → ℤ
limit z = cond (int_lt (pos 32000) z) (pos 32000) (cond (int_lt z (negsuc 31999)) (negsuc 31999) z)

abbrev pub limited : HourRecord → HourRecord
limited v = record { active = limit v.active; reactive = limit v.reactive }

-- what the hours of a part count as, as far as their records are lent
abbrev pub values_in : Span → List HourRecord → List HourRecord
values_in span records = map limited (between span.first span.end records)

-- a value above zero, or 0
abbrev pub positive : ℤ → ℕ
positive (pos n) = n
positive (negsuc n) = 0

-- drawn is positive, fed in is negative
abbrev pub flow_of : Flow → HourRecord → ℕ
flow_of Drawn v = positive v.active
flow_of FedIn v = positive (neg_ℤ v.active)
flow_of ReactiveDrawn v = positive v.reactive
flow_of ReactiveFedIn v = positive (neg_ℤ v.reactive)

-- the highest of a flow, 0 if none is positive
abbrev pub highest_of : Flow → List HourRecord → ℕ
highest_of flow [] = 0
highest_of flow (v ∷ vs) = max (flow_of flow v) (highest_of flow vs)

-- what is drawn in those hours that count, of which the first is hour h
abbrev pub energy_in : (ℕ → Bool) → ℕ → List HourRecord → ℕ
energy_in counts h [] = 0
energy_in counts h (v ∷ vs) = cond (counts h) (flow_of Drawn v) 0 + energy_in counts (suc h) vs

-- the highest that is drawn in those hours that count, 0 if there is none
abbrev pub highest_in : (ℕ → Bool) → ℕ → List HourRecord → ℕ
highest_in counts h [] = 0
highest_in counts h (v ∷ vs) = max (cond (counts h) (flow_of Drawn v) 0) (highest_in counts (suc h) vs)

-- the hours that a test leaves out
abbrev pub other : (ℕ → Bool) → ℕ → Bool
other counts h = not (counts h)
