-- Every promise of advice, from the best of the definitions and the laws of the tariff.
use Rattle.std.proofs.Common.{ℕ, Bool, ℤ, sym, subst, ◌∙◌, arith}
use Rattle.tariff.specs.declared.advice.Advice.{Advice}
use Rattle.tariff.specs.Charges.{charge_of, Bounded}
use Rattle.tariff.specs.Advised.{Advised, Cheapest}
use Rattle.tariff.proofs.Best.{advised, cheapest, found, only, some_best}
use Rattle.tariff.proofs.advice.advise.Goals as goal

pub unwrap-requires : goal.unwrap-requires
unwrap-requires g c =
    let t = c.args.tariff.now in
    let one = g.met.T.Tariff.some t in
    rw c.best.ensures.best (some_best (g.T.Tariff.permitted t) (charge_of (g.T.Tariff.amount t)) 0 g.T.Tariff.TOP g.T.Tariff.CHOICES one.0 one.1 one.2)

pub returns : goal.returns
returns g c =
    let t = c.args.tariff.now in
    let permitted : ℕ → Bool = g.T.Tariff.permitted t in
    let K : ℕ → ℕ → ℤ = charge_of (g.T.Tariff.amount t) in
    let top : ℕ = g.T.Tariff.TOP in
    let n : ℕ = g.T.Tariff.CHOICES in
    let r : Advice = c.unwrap.result in
    let one = g.met.T.Tariff.some t in
    let computed = found permitted K 0 top n r (sym c.best.ensures.best ∙ c.unwrap.ensures) in
    let a : Advised permitted K 0 top n r = subst (Advised permitted K 0 top n) (sym computed) (advised permitted K 0 top n one.0 one.1 one.2) in
    let least : Cheapest permitted K 0 top n r = cheapest permitted K 0 top n top r (omega arith) (omega arith) (g.met.T.Tariff.convex t) a in
    record {
      rule = a;
      only = λ b h. only permitted K 0 top n b r h a;
      computed = computed;
      told = a.told;
      bounded = subst Bounded (sym a.told) (g.met.T.Tariff.bounded t r.choice r.kw a.below a.allowed least.to);
      cheapest = least;
    }
