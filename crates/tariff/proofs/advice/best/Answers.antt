-- What is picked is the best of the definitions.
use Rattle.std.proofs.Common.{ℕ, Bool, ℤ, ◌∙◌, arith, rules, tests}
use Rattle.std.proofs.lemmas.Iterator.{YieldsList-from_range}
use Rattle.std.proofs.lemmas.Iterator.Consumers.{YieldsList-from_filter_map}
use Rattle.tariff.specs.Charges.{charge_of}
use Rattle.tariff.proofs.Picks.{best_picked, least_picked, offer}
use Rattle.tariff.proofs.advice.best.Goals as goal

pub returns : goal.returns
returns g c =
    let t = c.args.tariff.now in
    let permitted : ℕ → Bool = g.T.Tariff.permitted t in
    let K : ℕ → ℕ → ℤ = charge_of (g.T.Tariff.amount t) in
    let top : ℕ = g.T.Tariff.TOP in
    let n : ℕ = g.T.Tariff.CHOICES in
    let range = rw c.CHOICES.ensures at c.filter_map.ensures.source in
    let picked = least_picked _ _ (λ x a q k. search (rules, tests)) c.filter_map.result c.min_by_key.result c.min_by_key.ensures.ran
    (YieldsList-from_filter_map _ (offer n permitted K 0 top) (YieldsList-from_range 0 n n range (omega arith)) c.filter_map.ensures.closure (λ x r q k. search (rules, tests))) in
    record { best = picked ∙ best_picked n permitted K 0 top }
