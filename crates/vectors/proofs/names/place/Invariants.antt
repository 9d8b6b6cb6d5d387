-- `place` is safe and ends: there are no more names than bytes. Assumes nothing.
use Rattle.std.proofs.Common.{◌-◌, ◌≤◌, length, rules}
use Rattle.vectors.proofs.names.place.Given as goal

abbrev pub invariant-loop-from : goal.invariant-loop-from
invariant-loop-from l = l.k ≤ l.from

abbrev pub decreases-loop-from : goal.decreases-loop-from
decreases-loop-from l = length l.names - l.from
