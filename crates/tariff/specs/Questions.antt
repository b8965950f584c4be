-- What a tariff answers to its three questions, from its number of choices n, its top kW and its meaning.
use Rattle.std.specs.Prelude.{ℕ, Bool, cond, ◌&&◌, ℤ, pos, nat_le, nat_lt}
use Rattle.tariff.specs.Charges.{charge_of}

-- one of the choices, and permitted
abbrev pub allowed : ℕ → (ℕ → Bool) → ℕ → Bool
allowed n permitted c = nat_lt c n && permitted c

-- from 1 to n
abbrev pub numbered : ℕ → ℕ → Bool
numbered n k = nat_le 1 k && nat_le k n

-- the amount of a permitted choice, a kW up to the top, an invoice and a line; elsewhere 0
abbrev pub amount_answer : ℕ → ℕ → (ℕ → Bool) → (ℕ → ℕ → ℕ → ℕ → ℤ) → ℕ → ℕ → ℕ → ℕ → ℤ
amount_answer n top permitted amount c s i l =
    cond (allowed n permitted c && nat_le s top && numbered 13 i && numbered 9 l) (amount c s i l) (pos 0)

-- the charge of a permitted choice and a kW up to the top; elsewhere 0
abbrev pub charge_answer : ℕ → ℕ → (ℕ → Bool) → (ℕ → ℕ → ℕ → ℕ → ℤ) → ℕ → ℕ → ℤ
charge_answer n top permitted amount c s = cond (allowed n permitted c && nat_le s top) (charge_of amount c s) (pos 0)
