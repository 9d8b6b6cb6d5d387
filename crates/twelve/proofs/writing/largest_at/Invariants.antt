-- `largest_at` meets its contract: the largest so far.
use Prim.Native.Nat.{◌≤◌}
use lib.ListN.{length}
use Rattle.twelve.specs.Largest.{IsLargestAt}
use Rattle.twelve.proofs.writing.largest_at.Given as goal

abbrev pub invariant-loop-k : goal.invariant-loop-k
invariant-loop-k l = (l.k ≤ length l.sums) × IsLargestAt l.sums l.k l.largest
