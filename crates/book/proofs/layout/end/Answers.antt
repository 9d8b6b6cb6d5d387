-- `end` meets its contract: a refused position stays, any other is compared with the length.
use borrow.Author.Rules.{rules}
use borrow.Author.Tests.{lt-ltb, le-ltb}
use Rattle.format.specs.Verdict.{end}
use Rattle.book.proofs.layout.end.Goals as goal

pub returns-in_err-i : goal.returns-in_err-i
unfolding end
returns-in_err-i c = search rules

pub returns-then-i-book : goal.returns-then-i-book
unfolding end
returns-then-i-book c = rw (c.in_ok-i.was, lt-ltb _ _ c.if-i-book.true)

pub returns : goal.returns
unfolding end
returns c = rw (c.in_ok-i.was, le-ltb _ _ c.if-i-book.false)
