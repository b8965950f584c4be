-- The place of the first row that fails is the position of the first at which the test's opposite passes.
use Rattle.std.proofs.Common.{◌≡◌, Bool, not, ap, ◌∙◌, rules, tests}
use Rattle.std.proofs.lemmas.Iterator.{YieldsList-from_slice}
use Rattle.std.proofs.lemmas.Iterator.Adapters.{position_from-zero}
use Rattle.std.proofs.lemmas.Iterator.Search.{position_from_yields_List}
use Rattle.std.specs.Fn.{FnReturnsAt}
use Rattle.bills.specs.Ranges.{first_failing}
use Rattle.bills.proofs.Failing.{failing_position}
use Rattle.normal_sheet.specs.declared.sheet.Row.{Row}
use Rattle.normal_sheet.proofs.check.first_failing.Goals as goal

pub returns : goal.returns
returns g c = record {
  first = λ test computes.
      let rows = c.args.rows.now in
      let place : c.position-place.result ≡ first_failing test 0 rows =
      position_from_yields_List (λ (row : Row). not (test row)) _ _ c.position-place.result c.position-place.ensures.ran (YieldsList-from_slice rows cc) (λ x b q k.
      let found : (r : Bool) × (b ≡ not r) × FnReturnsAt g.F.Fn c.args.fits x.now r = search (rules, tests) in
      (search rules, found.1 ∙ ap not (computes x.now found.0 found.2)))
      ∙ position_from-zero (λ (row : Row). not (test row)) rows ∙ failing_position test 0 rows in
      search rules;
}
