-- `begin` meets its contract: by the length.
use native.Mathlib.Omega.{arith}
use lib.ListN.{length}
use borrow.Author.Tests.{lt-ltb, le-ltb}
use Rattle.format.specs.Verdict.{begin}
use Rattle.book.proofs.layout.begin.Goals as goal

pub returns-then-book-gt60000 : goal.returns-then-book-gt60000
unfolding begin
returns-then-book-gt60000 c = rw (lt-ltb 60000 (length c.args.book.now) (omega (arith, c.if-book-gt60000.true)))

pub returns : goal.returns
unfolding begin
returns c = rw (le-ltb 60000 (length c.args.book.now) (omega (arith, c.if-book-gt60000.false)))
