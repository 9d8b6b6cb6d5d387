-- `floats::clamp01` meets its contract: each test is one of the definition's. Assumes nothing.
use lib.Ieee.{of_bits}
use Rattle.floats.proofs.clamp01.Goals as goal

pub returns-then-x : goal.returns-then-x
unfolding of_bits
returns-then-x c = rw c.if-x.true

pub returns-then-x-2 : goal.returns-then-x-2
unfolding of_bits
returns-then-x-2 c = rw (c.if-x.false, c.if-x-2.true)

pub returns : goal.returns
unfolding of_bits
returns c = rw (c.if-x.false, c.if-x-2.false)
