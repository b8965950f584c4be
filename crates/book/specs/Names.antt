-- The names of areas, connections and parts of the year, as they are printed.
use Rattle.std.specs.Prelude.{ℕ, List, codes}
use Rattle.calendar.specs.Names.{month_name}
use Rattle.book.specs.declared.point.Area.{Area}
use Rattle.book.specs.declared.point.Area.TheVariants.{Norrbotten, MiddleNorrland, Southern}
use Rattle.book.specs.declared.point.Connection.{Connection}
use Rattle.book.specs.declared.point.Connection.TheVariants.{L1, T1, L2, T2, T12, T13, L110In, L33In}
use Rattle.book.specs.declared.period.Period.{Period}
use Rattle.book.specs.declared.period.Period.TheVariants.{Month, Year}

abbrev pub area_name : Area → List ℕ
area_name Norrbotten = codes "Norrbotten"
area_name MiddleNorrland = codes "Middle Norrland"
area_name Southern = codes "Southern"

abbrev pub connection_name : Connection → List ℕ
connection_name L1 = codes "L1"
connection_name T1 = codes "T1"
connection_name L2 = codes "L2"
connection_name T2 = codes "T2"
connection_name T12 = codes "T12"
connection_name T13 = codes "T13"
connection_name L110In = codes "L110In"
connection_name L33In = codes "L33In"

abbrev pub period_name : Period → List ℕ
period_name (Month m) = month_name m.number
period_name Year = codes "the whole year"
