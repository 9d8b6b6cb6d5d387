-- `within` meets its contract, by cases on the number and by its tests.
use borrow.Author.Tests.{lt-ltb, le-ltb}
use Rattle.format.specs.Number.{in_range}
use Rattle.fields.proofs.kinds.within.Goals as goal

pub returns-then-v-low : goal.returns-then-v-low
unfolding in_range
returns-then-v-low c = rw (c.in-Ok.is, lt-ltb _ _ c.if-v-low.true)

pub returns-then-v-bound : goal.returns-then-v-bound
unfolding in_range
returns-then-v-bound c = rw (c.in-Ok.is, le-ltb _ _ c.if-v-low.false, lt-ltb _ _ c.if-v-bound.true)

pub returns-else-v-bound : goal.returns-else-v-bound
unfolding in_range
returns-else-v-bound c = rw (c.in-Ok.is, le-ltb _ _ c.if-v-low.false, le-ltb _ _ c.if-v-bound.false)

pub returns-in-Err : goal.returns-in-Err
unfolding in_range
returns-in-Err c = rw c.in-Err.is
