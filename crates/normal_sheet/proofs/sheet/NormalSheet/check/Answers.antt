-- A supplement that does not fit is found by `all`.
use Rattle.std.proofs.Common.{◌≡◌, Bool, true, false, ◌&&◌, List, [], ◌∷◌, length, get_or, refl, sym, ◌∙◌, arith, rules, tests}
use Rattle.std.specs.List.{list_all}
use Rattle.std.proofs.lemmas.Iterator.{YieldsList-from_slice}
use Rattle.std.proofs.lemmas.Iterator.Search.{all_from_yields_List}
use Rattle.normal_sheet.specs.Levels.{no_supplement}
use Rattle.normal_sheet.specs.Ranges.{supplement_fits}
use Rattle.normal_sheet.proofs.sheet.NormalSheet.check.Goals as goal

both : {X : Type 0} (test : X → Bool) (d : X) (xs : List X) → length xs ≡ 2 → list_all test xs ≡ (test (get_or xs 0 d) && test (get_or xs 1 d))
both test d [] two = absurd (omega arith)
both test d (x ∷ []) two = absurd (omega arith)
both test d (x ∷ y ∷ []) two = last (test x) (test y)
  where
    last : (a b : Bool) → (a && (b && true)) ≡ (a && b)
    last true true = refl
    last true false = refl
    last false b = refl
both test d (x ∷ y ∷ z ∷ xs) two = absurd (omega arith)

pub returns-then-not-all : goal.returns-then-not-all
returns-then-not-all c =
    let supplements = c.args.self.now.supplements in
    let two : length supplements ≡ 2 = search rules in
    let some_fails : (supplement_fits (get_or supplements 0 no_supplement) && supplement_fits (get_or supplements 1 no_supplement)) ≡ false =
    sym (both supplement_fits no_supplement supplements two)
    ∙ sym (all_from_yields_List supplement_fits _ _ c.all.result c.all.ensures.ran (YieldsList-from_slice supplements cc) (λ x b q k. search (rules, tests)))
    ∙ c.if-not-all.true in
    search rules
