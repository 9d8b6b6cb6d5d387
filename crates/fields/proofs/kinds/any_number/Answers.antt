-- `any_number` meets its contract, by cases on the position.
use Rattle.format.specs.Reader.{number}
use Rattle.fields.proofs.Common.{any_few}
use Rattle.fields.proofs.kinds.any_number.Goals as goal

pub returns-in-Some : goal.returns-in-Some
returns-in-Some c = rw c.in-Ok.is (any_few _ _ c.in-Some.n c.in-Some.ensures)

pub returns-in_default : goal.returns-in_default
unfolding number
returns-in_default c = rw (c.in-Ok.is, ← c.number.ensures) c.found.ensures

pub returns-in-Err : goal.returns-in-Err
unfolding number
returns-in-Err c = rw c.in-Err.is
