-- `found` meets its contract, by cases on the number.
use Rattle.format.specs.Reader.{found}
use Rattle.fields.proofs.kinds.found.Goals as goal

pub returns-in-Ok : goal.returns-in-Ok
unfolding found
returns-in-Ok c = rw c.in-Ok.is

pub returns-in-Err : goal.returns-in-Err
unfolding found
returns-in-Err c = rw c.in-Err.is
