-- The energy of a part, hour by hour.
use Rattle.std.proofs.Common.{◌≡◌, ℕ, suc, ◌+◌, ◌<◌, ◌≤◌, Bool, cond, List, map, length, get_or, drop, ap, ◌∙◌, arith}
use Rattle.std.proofs.lemmas.List.{at_drop_all, at_drop_more}
use Rattle.hours.specs.declared.record.HourRecord.{HourRecord}
use Rattle.hours.specs.declared.flow.Flow.TheVariants.{Drawn}
use Rattle.hours.specs.Values.{energy_in, flow_of, limited}
use Rattle.hours.proofs.Numbered.{blank}

-- what hour i of the part draws
abbrev pub drawn_at : List HourRecord → ℕ → ℕ
drawn_at hours i = flow_of Drawn (limited (get_or hours i blank))

module _ (counts : ℕ → Bool) (hours : List HourRecord) (first i : ℕ) where
  pub energy_more : i < length hours
      → energy_in counts (first + i) (map limited (drop i hours)) ≡ cond (counts (first + i)) (drawn_at hours i) 0 + energy_in counts (first + (i + 1)) (map limited (drop (i + 1) hours))
  energy_more lt =
      let next : suc (first + i) ≡ first + (i + 1) = omega arith in
      at_drop_more (λ l. energy_in counts (first + i) (map limited l)) hours i blank lt
      ∙ ap (λ (h : ℕ). cond (counts (first + i)) (drawn_at hours i) 0 + energy_in counts h (map limited (drop (i + 1) hours))) next

  pub energy_none : length hours ≤ i → energy_in counts (first + i) (map limited (drop i hours)) ≡ 0
  energy_none past = at_drop_all (λ l. energy_in counts (first + i) (map limited l)) hours i past
