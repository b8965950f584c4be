-- `open` leaves a plain book without values.
use Rattle.std.proofs.Common.{ℕ, List, Some, ap, ◌∙◌}
use Rattle.book.specs.Memory.{read, state}
use Rattle.book.proofs.Changes.{open_accepted}
use Rattle.book.proofs.book.Book.open.Goals as goal

pub returns-clause-plain : goal.returns-clause-plain
returns-clause-plain c =
    let o = c.in_ok-opening.opening in
    let before = read (state c.args.self.now.opening c.args.records.now c.args.words.now) in
    ap (λ (ws : List ℕ). read (state (Some o) c.args.records.now ws)) c.clear.ensures.cleared
    ∙ open_accepted o c.args.records.now c.args.words.now _ before c.in_ok-opening.ensures.answer
