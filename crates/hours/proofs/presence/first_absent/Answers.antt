-- `first_absent` finds the first hour whose bit is zero.
use Rattle.std.proofs.Common.{◌≡◌, ℕ, Bool, true, false, rules, tests}
use Rattle.std.proofs.lemmas.Iterator.{first_from_Range}
use Rattle.hours.specs.Presence.{present}
use Rattle.hours.proofs.Absent.{absent_found}
use Rattle.hours.proofs.presence.first_absent.Goals as goal

pub returns : goal.returns
returns c =
    let there : ℕ → Bool = present c.args.words.now in
    record {
      first = absent_found there c.args.span.first c.args.span.end c.find.result c.args.span.forward
          (first_from_Range _ _ _ _ (λ h. there h ≡ false) (λ h. there h ≡ true) c.find.ensures.ran (λ x q k. search (rules, tests)) (λ x q k. search (rules, tests)));
    }
