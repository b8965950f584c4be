-- The names of the months and the weekdays, as they are printed.
use Rattle.std.specs.Prelude.{ℕ, ◌-◌, List, [], ◌∷◌, codes, slice_index_or}
use Rattle.calendar.specs.declared.date.Weekday.{Weekday}
use Rattle.calendar.specs.declared.date.Weekday.TheVariants.{Monday, Tuesday, Wednesday, Thursday, Friday, Saturday, Sunday}

abbrev pub month_names : List (List ℕ)
month_names =
    codes "January" ∷ codes "February" ∷ codes "March" ∷ codes "April" ∷ codes "May" ∷ codes "June"
    ∷ codes "July" ∷ codes "August" ∷ codes "September" ∷ codes "October" ∷ codes "November" ∷ codes "December" ∷ []

-- the name of month m, numbered from 1
abbrev pub month_name : ℕ → List ℕ
month_name m = slice_index_or month_names (m - 1) []

abbrev pub weekday_name : Weekday → List ℕ
weekday_name Monday = codes "Monday"
weekday_name Tuesday = codes "Tuesday"
weekday_name Wednesday = codes "Wednesday"
weekday_name Thursday = codes "Thursday"
weekday_name Friday = codes "Friday"
weekday_name Saturday = codes "Saturday"
weekday_name Sunday = codes "Sunday"
