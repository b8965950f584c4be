-- The ranges of a sheet's numbers, and the first of its rows that fails a test.
use Rattle.std.specs.Prelude.{ℕ, suc, ◌%◌, Bool, cond, ◌&&◌, List, [], ◌∷◌, ℤ, pos, negsuc, Some, None, Ok, Err, Option, Result, ◌==◌, int_le, nat_le}
use Rattle.bills.specs.declared.standing.StandingRates.{StandingRates}

-- öre
abbrev pub fee_fits : ℕ → Bool
fee_fits n = nat_le n 1000000000

abbrev pub rate_fits : ℕ → Bool
rate_fits n = nat_le n 1000000

-- hundredths of an öre for each kWh, from -100,000 to 100,000
abbrev pub price_fits : ℤ → Bool
price_fits z = int_le (negsuc 99999) z && int_le z (pos 100000)

abbrev pub percentage_fits : ℕ → Bool
percentage_fits n = nat_le n 100 && n % 5 == 0

-- kVAr
abbrev pub cap_fits : ℕ → Bool
cap_fits n = nat_le n 32000

abbrev pub standing_fits : StandingRates → Bool
standing_fits r = fee_fits r.fixed_fee && rate_fits r.power_rate && rate_fits r.extra_rate

-- the number of the first row, counted from n, that fails the test
abbrev pub first_failing : {X : Type 0} → (X → Bool) → ℕ → List X → Option ℕ
first_failing test n [] = None
first_failing test n (row ∷ rows) = cond (test row) (first_failing test (suc n) rows) (Some n)

-- refused for the row that was found, if one was
abbrev pub row_answer : {E : Type 0} → (ℕ → E) → Option ℕ → Result (Unit {0}) E
row_answer refusal None = Ok tt
row_answer refusal (Some n) = Err (refusal n)

-- the next test, unless the one before it refuses
infixr 20 ◌then◌
abbrev pub ◌then◌ : {E : Type 0} → Result (Unit {0}) E → Result (Unit {0}) E → Result (Unit {0}) E
(Ok _) then next = next
(Err e) then next = Err e
