-- The table of refusals: layer, number and place of every case.
use Rattle.std.specs.Prelude.{ℕ}
use Rattle.refusals.specs.declared.line.LineRefusal.{LineRefusal}
use Rattle.refusals.specs.declared.line.LineRefusal.TheVariants as line
use Rattle.refusals.specs.declared.frame.FrameRefusal.{FrameRefusal}
use Rattle.refusals.specs.declared.frame.FrameRefusal.TheVariants as frame
use Rattle.refusals.specs.declared.book.Lent.{Lent}
use Rattle.refusals.specs.declared.book.Lent.TheVariants.{Records, Words}
use Rattle.refusals.specs.declared.book.Quantity.{Quantity}
use Rattle.refusals.specs.declared.book.Quantity.TheVariants.{Power, ExtraWithdrawal, ExtraInput}
use Rattle.refusals.specs.declared.book.BookRefusal.{BookRefusal}
use Rattle.refusals.specs.declared.book.BookRefusal.TheVariants as book
use Rattle.refusals.specs.declared.tariff.TariffRefusal.{TariffRefusal}
use Rattle.refusals.specs.declared.tariff.TariffRefusal.TheVariants as tariff
use Rattle.refusals.specs.declared.Refusal.{Refusal}
use Rattle.refusals.specs.declared.Refusal.TheVariants.{Line, Frame, Book, Tariff}

pub record Row : Type 0 where
  pub layer : ℕ
  pub number : ℕ
  pub place : ℕ

abbrev pub row : ℕ → ℕ → ℕ → Row
row l n p = record { layer = l; number = n; place = p }

-- layer 1: the line
abbrev pub line_row : LineRefusal → Row
line_row line.Length = row 1 11 0
line_row (line.Digit column) = row 1 12 column

-- layer 2: the frame
abbrev pub frame_row : FrameRefusal → Row
frame_row (frame.Kind kind) = row 2 13 kind
frame_row (frame.Length bytes) = row 2 14 bytes
frame_row (frame.Check sum) = row 2 15 sum

abbrev pub lent_place : Lent → ℕ
lent_place Records = 0
lent_place Words = 1

abbrev pub quantity_place : Quantity → ℕ
quantity_place Power = 1
quantity_place ExtraWithdrawal = 2
quantity_place ExtraInput = 3

-- layer 3: the book
abbrev pub book_row : BookRefusal → Row
book_row (book.Memory short) = row 3 20 (lent_place short)
book_row (book.Year year) = row 3 21 year
book_row (book.Area area) = row 3 22 area
book_row (book.Connection connection) = row 3 23 connection
book_row book.NeverOpened = row 3 24 0
book_row (book.Hour hour) = row 3 25 hour
book_row (book.Value hour) = row 3 26 hour
book_row (book.Present hour) = row 3 27 hour
book_row (book.Absent hour) = row 3 28 hour
book_row (book.Choice choice) = row 3 29 choice
book_row (book.Limit quantity) = row 3 30 (quantity_place quantity)
book_row (book.Number number) = row 3 31 number

-- layer 4: the tariff
abbrev pub tariff_row : TariffRefusal → Row
tariff_row (tariff.Sheet area) = row 4 32 area
tariff_row (tariff.NotOffered choice) = row 4 33 choice
tariff_row (tariff.Incomplete hour) = row 4 34 hour
tariff_row (tariff.OutOfRange r) = row 4 41 r
tariff_row (tariff.Percentage r) = row 4 42 r

abbrev pub row_of : Refusal → Row
row_of (Line refusal) = line_row refusal
row_of (Frame refusal) = frame_row refusal
row_of (Book refusal) = book_row refusal
row_of (Tariff refusal) = tariff_row refusal
