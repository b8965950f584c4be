-- `clear` sets the words of a year to zero, as far as they are lent.
use Rattle.std.proofs.Common.{◌≡◌, ℕ, List, ◌++◌, length, drop, min, replicate, ap, ◌∙◌, arith}
use Rattle.std.proofs.lemmas.List.{drop_min, length-take-le}
use Rattle.hours.specs.Presence.{cleared}
use Rattle.hours.proofs.presence.clear.Goals as goal

pub returns : goal.returns
unfolding cleared
returns c =
    let words : List ℕ = c.args.words.now in
    let end : ℕ = c.min-end.result in
    let few : end ≡ min 138 (length words) = omega arith in
    let zeros : c.fill.new.self ≡ replicate end 0 = c.fill.ensures.after (λ y e. e) ∙ ap (λ (k : ℕ). replicate k 0) (length-take-le end words (omega arith)) in
    record {
      cleared = ap (λ (front : List ℕ). front ++ drop end words) zeros
          ∙ ap (λ (k : ℕ). replicate k 0 ++ drop k words) few
          ∙ ap (λ (rest : List ℕ). replicate (min 138 (length words)) 0 ++ rest) (drop_min 138 words);
    }
