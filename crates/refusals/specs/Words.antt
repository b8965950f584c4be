-- What each refusal says in words.
use Rattle.std.specs.Prelude.{ℕ, ◌-◌, ◌^◌, true, false, List, [], ◌++◌, codes, decimal}
use Rattle.std.specs.Fmt.{digits, format_spec, padded_integral}
use Rattle.refusals.specs.declared.line.LineRefusal.{LineRefusal}
use Rattle.refusals.specs.declared.line.LineRefusal.TheVariants as line
use Rattle.refusals.specs.declared.frame.FrameRefusal.{FrameRefusal}
use Rattle.refusals.specs.declared.frame.FrameRefusal.TheVariants as frame
use Rattle.refusals.specs.declared.Refusal.{Refusal}
use Rattle.refusals.specs.declared.Refusal.TheVariants.{Line, Frame, Book, Tariff}
use Rattle.refusals.specs.declared.book.Lent.{Lent}
use Rattle.refusals.specs.declared.book.Lent.TheVariants.{Records, Words}
use Rattle.refusals.specs.declared.book.Quantity.{Quantity}
use Rattle.refusals.specs.declared.book.Quantity.TheVariants.{Power, ExtraWithdrawal, ExtraInput}
use Rattle.refusals.specs.declared.book.BookRefusal.{BookRefusal}
use Rattle.refusals.specs.declared.book.BookRefusal.TheVariants as book
use Rattle.refusals.specs.declared.tariff.TariffRefusal.{TariffRefusal}
use Rattle.refusals.specs.declared.tariff.TariffRefusal.TheVariants as tariff

-- two digits in capitals, as the library writes `{:02X}`
abbrev pub hex2 : ℕ → List ℕ
hex2 byte = padded_integral (format_spec 32 0 4 2 (2 ^ 64 - 1)) false [] (digits 16 true byte)

abbrev pub line_words : LineRefusal → List ℕ
line_words line.Length = codes "a line has 4 to 64 bytes, an even number"
line_words (line.Digit column) = codes "no digit in column " ++ decimal column

abbrev pub frame_words : FrameRefusal → List ℕ
frame_words (frame.Kind kind) = hex2 kind ++ codes " is no kind of request"
frame_words (frame.Length bytes) = codes "a frame of this kind has not " ++ decimal bytes ++ codes " bytes"
frame_words (frame.Check sum) = codes "the bytes add up to " ++ decimal sum ++ codes " modulo 256, not to 0"

abbrev pub lent_words : Lent → List ℕ
lent_words Records = codes "hour records"
lent_words Words = codes "presence words"

abbrev pub quantity_words : Quantity → List ℕ
quantity_words Power = codes "power"
quantity_words ExtraWithdrawal = codes "extra reactive withdrawal"
quantity_words ExtraInput = codes "extra reactive input"

abbrev pub book_words : BookRefusal → List ℕ
book_words (book.Memory short) = codes "too few " ++ lent_words short ++ codes " are lent"
book_words (book.Year year) = codes "year " ++ decimal year ++ codes " is not 2002 to 2299"
book_words (book.Area area) = codes "area " ++ decimal area ++ codes " is not 1 to 3"
book_words (book.Connection connection) = codes "connection " ++ decimal connection ++ codes " is above 7"
book_words book.NeverOpened = codes "the book was never opened"
book_words (book.Hour hour) = codes "hour " ++ decimal hour ++ codes " is past the year's last"
book_words (book.Value hour) = codes "a value beyond 32000 either way for hour " ++ decimal hour
book_words (book.Present hour) = codes "hour " ++ decimal hour ++ codes " has a value"
book_words (book.Absent hour) = codes "hour " ++ decimal hour ++ codes " has no value"
book_words (book.Choice choice) = codes "choice " ++ decimal choice ++ codes " is not open to the connection"
book_words (book.Limit quantity) = quantity_words quantity ++ codes " over its limit"
book_words (book.Number number) = codes "number " ++ decimal number ++ codes " is not 1 to 13"

abbrev pub tariff_words : TariffRefusal → List ℕ
tariff_words (tariff.Sheet area) = codes "a sheet of another tariff or area, " ++ decimal area
tariff_words (tariff.NotOffered choice) = codes "choice " ++ decimal choice ++ codes " is not offered"
tariff_words (tariff.Incomplete hour) = codes "hour " ++ decimal hour ++ codes " has no value"
tariff_words (tariff.OutOfRange r) = codes "an amount out of range in row " ++ decimal r
tariff_words (tariff.Percentage r) = codes "a percentage out of range in row " ++ decimal r

abbrev pub words : Refusal → List ℕ
words (Line refusal) = line_words refusal
words (Frame refusal) = frame_words refusal
words (Book refusal) = book_words refusal
words (Tariff refusal) = tariff_words refusal
