-- `performance_of` meets its contract: one number, where it fits.
use native.Mathlib.Omega.{arith}
use mathlib.Core.Path.{ap, ◌∙◌}
use borrow.Author.Rules.{rules}
use Rattle.floats.specs.Figures.{bits_of}
use Rattle.format.specs.Verdict.{content}
use Rattle.answers.specs.Rows.{performance_rows}
use Rattle.answers.proofs.Sized.{no_room}
use Rattle.progress.proofs.Answering.{performance_sized, performance_put}
use Rattle.progress.proofs.performance.performance_of.Goals as goal

pub returns-then-out-lt1 : goal.returns-then-out-lt1
returns-then-out-lt1 c =
    let b = content c.args.book.now in
    no_room (performance_rows c.args.activity b) c.args.out.now (performance_sized c.args.activity b) (omega arith)

pub returns : goal.returns
returns c =
    performance_put c.args.activity (content c.args.book.now) c.args.out.now (omega (arith, c.if-out-lt1.false)) _ (c.bits.ensures ∙ ap bits_of c.performance.ensures)
