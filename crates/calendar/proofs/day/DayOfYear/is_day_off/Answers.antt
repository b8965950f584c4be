-- `contains` and `among` decide the same: whether the day is one of the nine.
use Rattle.std.proofs.Common.{◌≡◌, ℕ, eqb, List, refl, ap, ◌∙◌}
use Rattle.std.proofs.lemmas.List.Elements.{contains_decides}
use Rattle.std.proofs.lemmas.Bool.Decides.{same_from_decides, Decides-by_or, Decides-eqb}
use Rattle.calendar.specs.PeakLoad.{among}
use Rattle.calendar.proofs.day.DayOfYear.is_day_off.Goals as goal

pub returns : goal.returns
returns c =
    let d : ℕ = c.args.self.number in
    let xs : List ℕ = c.args.self.calendar.now.days_off in
    let e : c.contains.result ≡ among d xs =
    same_from_decides c.contains.result (among d xs)
    (contains_decides eqb Decides-eqb xs d c.contains.result c.contains.ensures.cases)
    (Decides-by_or (λ x. eqb x d) (λ x. x ≡ d) (among d) (λ x. Decides-eqb x d) refl (λ _ _. refl) xs) in
    record { off = e ∙ ap (among d) c.args.self.calendar.now.off }
