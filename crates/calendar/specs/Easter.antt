-- Easter Sunday of a year, in days after 22 March: the Gregorian computus of Meeus, Jones and Butcher.
use Rattle.std.specs.Prelude.{ℕ, ◌+◌, ◌-◌, ◌*◌, ◌/◌, ◌%◌}

-- the paschal full moon, in days after 21 March, from the year's place in the moon's cycle of 19 years and its century
abbrev pub full_moon : ℕ → ℕ → ℕ
full_moon golden century =
    (19 * golden + century - century / 4 - (century - (century + 8) / 25 + 1) / 3 + 15) % 30

-- the days from the day after the full moon to the Sunday
abbrev pub to_sunday : ℕ → ℕ → ℕ → ℕ
to_sunday century year moon = (32 + 2 * (century % 4) + 2 * (year / 4) - moon - year % 4) % 7

-- a Sunday that would be too late comes a week earlier
abbrev pub not_too_late : ℕ → ℕ → ℕ → ℕ
not_too_late golden moon sunday = moon + sunday - 7 * ((golden + 11 * moon + 22 * sunday) / 451)

abbrev pub after_moon : ℕ → ℕ → ℕ
after_moon y moon = not_too_late (y % 19) moon (to_sunday (y / 100) (y % 100) moon)

unfoldable pub easter : ℕ → ℕ
easter y = after_moon y (full_moon (y % 19) (y / 100))
