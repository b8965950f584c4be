-- `highest` takes one hour a turn.
use Rattle.std.proofs.Common.{◌≡◌, ℕ, ◌+◌, max, List, map, get_or, drop, pos, ap, ◌∙◌, arith}
use Rattle.std.proofs.lemmas.List.{at_drop_all, at_drop_more}
use Rattle.hours.specs.declared.record.HourRecord.{HourRecord}
use Rattle.hours.specs.Values.{flow_of, highest_of, limited}
use Rattle.hours.proofs.peak.highest.Goals as goal

abbrev blank : HourRecord
blank = record { active = pos 0; reactive = pos 0 }

pub loop-hour-preserved : goal.loop-hour-preserved
loop-hour-preserved c =
    let hours : List HourRecord = c.part-hours.result.now in
    let i : ℕ = c.loop-hour.hour-index in
    let flow = c.args.flow in
    let this : c.of.result ≡ flow_of flow (limited (get_or hours i blank)) = c.of.ensures.flow in
    let step : highest_of flow (map limited (drop i hours)) ≡ max (flow_of flow (limited (get_or hours i blank))) (highest_of flow (map limited (drop (i + 1) hours))) =
    at_drop_more (λ l. highest_of flow (map limited l)) hours i blank (omega arith) in
    let most = c.of.ensures.at_most in
    let so_far = c.loop-hour.invariant.0 in
    let low = c.loop-hour.invariant.1 in
    let higher = c.max-high.ensures in
    (omega arith, omega arith)

pub returns : goal.returns
returns c =
    let hours : List HourRecord = c.part-hours.result.now in
    let flow = c.args.flow in
    let rest : highest_of flow (map limited (drop c.loop-hour.hour-index hours)) ≡ 0 = at_drop_all (λ l. highest_of flow (map limited l)) hours c.loop-hour.hour-index c.loop-hour-test.false in
    let so_far = c.loop-hour.invariant.0 in
    let all : c.loop-hour.high ≡ highest_of flow (map limited hours) = omega arith in
    record { highest = all ∙ ap (λ (l : List HourRecord). highest_of flow (map limited l)) c.part-hours.ensures.part; at_most = c.loop-hour.invariant.1 }
