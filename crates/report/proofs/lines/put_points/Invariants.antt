-- `put_points` meets its contract. In the loop: the lines so far with those that are left are all. Assumes nothing.
use Prim.Native.Nat.{◌*◌, ◌≤◌}
use mathlib.Core.Path.{◌≡◌}
use mathlib.Core.List.{◌++◌}
use lib.ListN.{length, take}
use Rattle.report.specs.Lines.{point_line_in, point_lines}
use Rattle.report.proofs.Rows.{lines_from}
use Rattle.report.proofs.lines.put_points.Given as goal

abbrev pub invariant-loop-i : goal.invariant-loop-i
invariant-loop-i l =
    (length l.out ≡ length l.initial.out) × (l.i ≤ l.count) × (l.end ≤ l.i * 43) × (take l.end l.out ++ lines_from (point_line_in l.points) l.count l.i ≡ point_lines l.points l.count)
