-- Areas and connections: their numbers, the choices that are open to each connection, and what a book may hold.
use Rattle.std.specs.Prelude.{ℕ, Bool, true, cond, ◌&&◌, ◌||◌, Some, None, Option, ◌==◌, nat_le}
use Rattle.calendar.specs.Years.{served}
use Rattle.book.specs.declared.point.Area.{Area}
use Rattle.book.specs.declared.point.Area.TheVariants.{Norrbotten, MiddleNorrland, Southern}
use Rattle.book.specs.declared.point.Connection.{Connection}
use Rattle.book.specs.declared.point.Connection.TheVariants.{L1, T1, L2, T2, T12, T13, L110In, L33In}
use Rattle.book.specs.declared.account.Opening.{Opening}
use Rattle.book.specs.declared.account.Subscription.{Subscription}

abbrev pub area_of : ℕ → Option Area
area_of n = cond (n == 1) (Some Norrbotten) (cond (n == 2) (Some MiddleNorrland) (cond (n == 3) (Some Southern) None))

abbrev pub area_number : Area → ℕ
area_number Norrbotten = 1
area_number MiddleNorrland = 2
area_number Southern = 3

abbrev pub connection_of : ℕ → Option Connection
connection_of n =
    cond (n == 0) (Some L1)
    (cond (n == 1) (Some T1)
    (cond (n == 2) (Some L2)
    (cond (n == 3) (Some T2)
    (cond (n == 4) (Some T12)
    (cond (n == 5) (Some T13)
    (cond (n == 6) (Some L110In)
    (cond (n == 7) (Some L33In) None)))))))

-- the choice that an opened book begins with
abbrev pub own_choice : Connection → ℕ
own_choice L1 = 0
own_choice T1 = 1
own_choice L2 = 2
own_choice T2 = 3
own_choice T12 = 4
own_choice T13 = 5
own_choice L110In = 0
own_choice L33In = 1

-- the choices that are open to a connection
abbrev pub is_open : Connection → ℕ → Bool
is_open L1 c = c == 0 || c == 2 || c == 6
is_open T1 c = c == 1 || c == 2 || c == 6
is_open L2 c = c == 2 || c == 6 || c == 7
is_open T2 c = c == 3 || c == 6 || c == 8
is_open T12 c = c == 3 || c == 4 || c == 6
is_open T13 c = c == 1 || c == 2 || c == 5 || c == 6
is_open L110In c = c == 0
is_open L33In c = c == 1

-- the most kW: 32,000 on the normal tariff, 20,000 on the weekly tariff
abbrev pub top_of : Connection → ℕ
top_of L1 = 32000
top_of T1 = 32000
top_of L2 = 32000
top_of T2 = 32000
top_of T12 = 32000
top_of T13 = 32000
top_of L110In = 20000
top_of L33In = 20000

-- a subscription that the rules allow at a connection
abbrev pub allowed : Connection → Subscription → Bool
allowed connection s =
    is_open connection s.choice && nat_le s.power (top_of connection) && nat_le s.extra_withdrawal 32000 && nat_le s.extra_input 32000

-- a book that was never opened, or whose year and subscription the rules allow
abbrev pub lawful : Option Opening → Bool
lawful None = true
lawful (Some o) = served o.year && allowed o.connection o.subscription
