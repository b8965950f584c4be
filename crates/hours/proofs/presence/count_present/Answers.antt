-- `count_present` counts the hours of one word a turn.
use Rattle.std.proofs.Common.{◌≡◌, ℕ, ◌+◌, ◌-◌, ◌*◌, ◌/◌, ◌%◌, ◌^◌, ◌≤◌, max, min, List, get_or, sym, ap, ◌∙◌, ap₂, arith}
use lib.Count.{ones}
use Rattle.hours.specs.Presence.{count, present}
use Rattle.hours.proofs.Counted.{count_cut, count_in_word}
use Rattle.hours.proofs.presence.count_present.Goals as goal

pub loop-i-preserved : goal.loop-i-preserved
loop-i-preserved c =
    let words : List ℕ = c.args.words.now in
    let i : ℕ = c.loop-i.i in
    let first : ℕ = c.max-first.result in
    let end : ℕ = c.min-end.result in
    let last : ℕ = c.args.span.end in
    let next : ℕ = max c.args.span.first ((i + 1) * 64) in
    let after = c.loop-i.auto.i in
    let next_is : next ≡ (i + 1) * 64 = omega arith in
    let first_is : first ≡ max c.args.span.first (i * 64) = omega arith in
    let end_is : end ≡ min last next = omega arith in
    let forward : first ≤ end = omega arith in
    let bits : c.word-bits.result ≡ get_or words i 0 = c.word-bits.ensures.word ∙ ap (λ (k : ℕ). get_or words k 0) c.from.ensures in
    let word : c.ones_from.result ≡ count (present words) first (end - first) =
    c.ones_from.ensures.ones
    ∙ ap₂ (λ (w low : ℕ). ones (w / 2 ^ low % 2 ^ c.from-in-loop-i-2.result)) bits c.from-in-loop-i.ensures
    ∙ ap (λ (n : ℕ). ones (get_or words i 0 / 2 ^ (first % 64) % 2 ^ n)) c.from-in-loop-i-2.ensures
    ∙ sym (count_in_word words i first end (omega arith) (omega arith) forward (omega arith)) in
    let cut = count_cut (present words) first end next last forward end_is in
    let so_far = c.loop-i.invariant.0 in
    let from : count (present words) (max c.args.span.first (i * 64)) (last - max c.args.span.first (i * 64)) ≡ count (present words) first (last - first) =
    ap (λ (f : ℕ). count (present words) f (last - f)) (sym first_is) in
    let few = c.ones_from.ensures.at_most in
    let size = c.from-in-loop-i-2.ensures in
    (omega arith, omega arith)
