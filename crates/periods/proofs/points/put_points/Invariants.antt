-- `put_points` meets its contract: one period a turn.
use Prim.Native.Nat.{◌*◌}
use lib.ListN.{length}
use Rattle.lists.specs.Lists.{span}
use Rattle.flat.proofs.Written.{Written}
use Rattle.periods.specs.Points.{point_at}
use Rattle.periods.proofs.points.put_points.Given as goal

abbrev pub invariant-loop-p : goal.invariant-loop-p
invariant-loop-p l = Written 7 (point_at l.finishes l.planned l.figures) (span 0 (length l.finishes)) l.p (l.p * 7) l.out
