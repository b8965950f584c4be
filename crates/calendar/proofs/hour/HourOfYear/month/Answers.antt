-- The months whose ends the hour has passed are over, and the year ends with December.
use Rattle.std.proofs.Common.{rules, leb, arith}
use Rattle.std.proofs.lemmas.List.Sorted.{IsPartitionPoint-from_clause}
use Rattle.calendar.proofs.MonthLaws.{FoundMonth, month_found}
use Rattle.calendar.proofs.hour.HourOfYear.month.Goals as goal

pub invariant_of-result : goal.invariant_of-result
invariant_of-result c =
    let h = c.args.self in
    let k = h.calendar.now in
    let f : FoundMonth k.year.number h.number c.partition_point-over.result =
    month_found k.year.number h.number _ k.month_ends (search rules) k.ends h.within (omega arith) (λ s. IsPartitionPoint-from_clause (λ e. leb e h.number) k.month_ends _ c.partition_point-over.ensures.partitioned s (λ a r f' q. search rules)) in
    record { from = f.low; to = f.high }

pub returns : goal.returns
returns c =
    let h = c.args.self in
    let k = h.calendar.now in
    let f : FoundMonth k.year.number h.number c.partition_point-over.result =
    month_found k.year.number h.number _ k.month_ends (search rules) k.ends h.within (omega arith) (λ s. IsPartitionPoint-from_clause (λ e. leb e h.number) k.month_ends _ c.partition_point-over.ensures.partitioned s (λ a r f' q. search rules)) in
    record { month = f.is }
