-- `place` meets its contract, by cases on the position.
use Rattle.format.specs.Reader.{place_of}
use Rattle.fields.proofs.kinds.place.Goals as goal

pub returns-in-Ok : goal.returns-in-Ok
unfolding place_of
returns-in-Ok c = rw c.in-Ok.is

pub returns-in-Err : goal.returns-in-Err
unfolding place_of
returns-in-Err c = rw c.in-Err.is
