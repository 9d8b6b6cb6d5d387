-- `number` meets its contract: the loop keeps `Reading`, and each way out is one of its laws.
use Prim.Native.Nat.{◌+◌, ◌-◌}
use Rattle.fields.proofs.Groups.{Reading}
use Rattle.fields.proofs.numbers.number.Given as goal

abbrev pub invariant-loop-at : goal.invariant-loop-at
invariant-loop-at l = Reading l.book l.place l.at (l.place + 10 - l.at) l.scale l.sum
