-- `mark_of` meets its contract, by what is named.
use native.Mathlib.Omega.{arith}
use Rattle.sections.specs.Sections.{mark_of}
use Rattle.sections.proofs.budgets.mark_of.Goals as goal

pub returns-in-None : goal.returns-in-None
unfolding mark_of
returns-in-None c = rw c.in-None.is

pub returns-then-a-lt500 : goal.returns-then-a-lt500
unfolding mark_of
returns-then-a-lt500 c = rw c.in-Some.is (omega arith)

pub returns-else-a-lt500 : goal.returns-else-a-lt500
unfolding mark_of
returns-else-a-lt500 c = rw c.in-Some.is (omega arith)
