-- `above` meets its contract, by cases on the position after the date and by its test.
use borrow.Author.Tests.{lt-ltb, le-ltb}
use Rattle.format.specs.Reader.{tested}
use Rattle.fields.proofs.kinds.above.Goals as goal

pub returns-then-before-d : goal.returns-then-before-d
unfolding tested
returns-then-before-d c = rw (c.in-Ok.is, lt-ltb _ _ c.if-before-d.true)

pub returns-else-before-d : goal.returns-else-before-d
unfolding tested
returns-else-before-d c = rw (c.in-Ok.is, le-ltb _ _ c.if-before-d.false)

pub returns-in-Err : goal.returns-in-Err
unfolding tested
returns-in-Err c = rw c.in-Err.is
