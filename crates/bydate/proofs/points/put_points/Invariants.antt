-- `put_points` meets its contract: the loop keeps that with the rows of the dates that are left all are written.
use Prim.Native.Nat.{◌*◌, ◌-◌, ◌≤◌}
use Rattle.bydate.specs.Pointed.{points_in}
use Rattle.bydate.proofs.Writing.{Putting}
use Rattle.bydate.proofs.points.put_points.Given as goal

abbrev pub invariant-loop-date : goal.invariant-loop-date
invariant-loop-date l =
    (l.from ≤ l.date) × (l.j ≤ 2 * (l.date - l.from)) × Putting (points_in l.base l.table l.from l.to) (points_in l.base l.table l.date l.to) l.initial.out l.out l.j
