-- Periods: the months and the year, and the numbers that name them.
use Rattle.std.specs.Prelude.{◌≡◌, ℕ, Err, MatchResult}
use Rattle.book.specs.declared.period.Period.{Period}
use Rattle.book.specs.declared.period.Period.TheVariants.{Month, Year}
use Rattle.book.specs.Answers.{Answer, fine, number_answer}

-- a month by its own number, the year by 13
abbrev pub period_number : Period → ℕ
period_number (Month m) = m.number
period_number Year = 13

-- the result is the period with this number, or the refusal of the number
abbrev pub PeriodOf : ℕ → Answer Period → Type 0
PeriodOf number r = MatchResult r (λ p. (number_answer number ≡ fine) × (period_number p ≡ number)) (λ e. number_answer number ≡ Err e)
