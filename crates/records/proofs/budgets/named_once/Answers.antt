-- `named_once` meets its contract: by cases on the position after the name and by its test.
use Rattle.format.specs.Reader.{tested}
use Rattle.records.proofs.budgets.named_once.Goals as goal

pub returns-then-new : goal.returns-then-new
unfolding tested
returns-then-new c = rw (c.in-Ok.is, c.if-new.true)

pub returns-else-new : goal.returns-else-new
unfolding tested
returns-else-new c = rw (c.in-Ok.is, c.if-new.false)

pub returns-in-Err : goal.returns-in-Err
unfolding tested
returns-in-Err c = rw c.in-Err.is
