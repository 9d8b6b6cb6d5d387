-- `put_outline_rows` meets its contract. In the loop: the lines so far with those that are left are all. Assumes nothing.
use Prim.Native.Nat.{◌*◌, ◌≤◌}
use mathlib.Core.Path.{◌≡◌}
use mathlib.Core.List.{◌++◌}
use lib.ListN.{length, take}
use Rattle.report.specs.Lines.{outline_line_in, outline_lines}
use Rattle.report.proofs.Rows.{lines_from}
use Rattle.report.proofs.lines.put_outline_rows.Given as goal

abbrev pub invariant-loop-i : goal.invariant-loop-i
invariant-loop-i l =
    (length l.out ≡ length l.initial.out) × (l.i ≤ l.count) × (l.end ≤ l.i * 174) × (take l.end l.out ++ lines_from (outline_line_in l.rows) l.count l.i ≡ outline_lines l.rows l.count)
