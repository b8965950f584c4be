-- From the tariff's meaning to its numbers: the charge in closed form is the sum of the 117 amounts.
use Rattle.std.proofs.Common.{◌≡◌, ℕ, Bool, true, ℤ, sym, refl, ◌∙◌, subst, arith}
use Rattle.tariff.specs.Charges.{charge_of}
use Rattle.tariff.specs.Advised.{Cheapest, advice_of}
use Rattle.tariff.proofs.Alike.{advice_alike}
use Rattle.tariff.proofs.Best.{advised, cheapest}
use Rattle.sample_tariffs.specs.Amounts.{seasonal_amount, seasonal_charge}
use Rattle.sample_tariffs.specs.Years.{seasonal_year, seasonal_convex}
use Rattle.sample_tariffs.proofs.plain.seasonal_advice.Goals as goal

pub returns : goal.returns
returns c =
    let t = c.new.result in
    let fields = c.new.ensures in
    let all : ℕ → Bool = λ k. true in
    let added : ℕ → ℕ → ℤ = charge_of (seasonal_amount t.rate t.fee t.winter t.summer) in
    let K : ℕ → ℕ → ℤ = seasonal_charge c.args.rate c.args.fee c.args.winter c.args.summer in
    let same : (k s : ℕ) → seasonal_charge t.rate t.fee t.winter t.summer k s ≡ K k s = λ k s. cc in
    let computed : c.advise.result ≡ advice_of all K 100 2 = c.advise.ensures.computed ∙ advice_alike 0 100 (omega arith) all all added K 2 (λ k lt. refl) (λ k s a b d e. seasonal_year t.rate t.fee t.winter t.summer k s ∙ same k s) in
    let rule = advised all K 0 100 2 0 (omega arith) refl in
    let least = cheapest all K 0 100 2 100 (advice_of all K 100 2) (omega arith) (omega arith) (λ k lt p. seasonal_convex c.args.rate c.args.fee c.args.winter c.args.summer k 100) rule in
    record { computed = computed; cheapest = subst (Cheapest all K 0 100 2) (sym computed) least }
