-- A chunk more is taken in; at the end a newline more, if the text has none there.
use Rattle.std.proofs.Common.{rules, ◌≡◌, ◌≢◌, ◌≤◌, length, take, ◌++◌, subst}
use Rattle.std.specs.Io.KnownBytes.{Consumes}
use Rattle.line_input.specs.Taken.{Takes}
use Rattle.line_input.proofs.Steps.{consumes-none, consumes-on, folds-on, last-read, ended}
use Rattle.line_input.proofs.read_lines.Goals as goal

pub loop-preserved : goal.loop-preserved
loop-preserved g c =
    let (text, consumed, taken, _) = c.loop.invariant.0 in
    let room : length c.read.new.buf ≡ 4096 = search rules in
    let fits : c.in_ok-n.n ≤ length c.read.new.buf = search rules in (
      (
        text ++ take c.in_ok-n.n c.read.new.buf,
        consumes-on (g.R.Read.remaining c.args.input.now) (g.R.Read.remaining c.loop.input) (g.R.Read.remaining c.read.new.self) text (take c.in_ok-n.n c.read.new.buf) consumed c.in_ok-n.ensures.bytes.0,
        folds-on (Takes g.L.Lines.pushes g.L.Lines.ends) text (take c.in_ok-n.n c.read.new.buf) c.args.lines.now c.loop.lines c.hand_on.new.lines taken c.in_ok-hand_on.ensures,
        last-read text c.read.new.buf c.in_ok-n.n c.if-n-eq0.false fits,
      ),
      room,
    )

pub returns-in_ok-end_line-clause-each_byte : goal.returns-in_ok-end_line-clause-each_byte
returns-in_ok-end_line-clause-each_byte g c =
    let (text, consumed, taken, last) = c.loop.invariant.0 in (
      text,
      consumes-none (g.R.Read.remaining c.args.input.now) (g.R.Read.remaining c.loop.input) (g.R.Read.remaining c.read.new.self) text consumed (subst (λ n. Consumes (g.R.Read.remaining c.loop.input) (g.R.Read.remaining c.read.new.self) (take n c.read.new.buf)) c.if-n-eq0.true c.in_ok-n.ensures.bytes.0),
      ended g.L.Lines.pushes g.L.Lines.ends c.args.lines.now c.loop.lines c.end_line.new.self text (subst (λ b. b ≢ 10) last c.if-last-ne10.true) taken c.in_ok-end_line.ensures,
    )
