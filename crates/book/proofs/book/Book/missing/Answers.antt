-- `missing` answers the hours whose bit is zero: the part's hours less its ones.
use Rattle.std.proofs.Common.{sym, ◌∙◌, ap₂, arith}
use Rattle.hours.proofs.Counted.{count_both}
use Rattle.book.specs.Plain.{end_hour, first_hour}
use Rattle.book.proofs.Missing.{missing_law}
use Rattle.book.proofs.book.Book.missing.Goals as goal

pub overflow_sub-result-2 : goal.overflow_sub-result-2
overflow_sub-result-2 c = let ones = c.count_present.ensures.count in omega (arith, count_both)

pub returns : goal.returns
returns c =
    let span = c.hours-span.result in
    let told = c.in_ok-period.ensures in
    let year = c.new-calendar.ensures.of_year in
    record {
      answer = missing_law c.args.self.now.opening c.args.records.now c.args.words.now c.args.number c.in_ok-opening.opening span.first span.end c.count_present.result
          c.in_ok-check_memory.field-0 c.in_ok-check_memory.ensures.answer c.in_ok-opening.ensures.answer (sym told.0)
          (c.hours-span.ensures.first ∙ ap₂ first_hour year told.1) (c.hours-span.ensures.end ∙ ap₂ end_hour year told.1) span.forward c.count_present.ensures.count;
    }
