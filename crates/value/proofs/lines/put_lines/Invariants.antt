-- `put_lines` meets its contract: one row a turn.
use Prim.Native.Nat.{◌*◌, ◌-◌, ◌≤◌}
use native.Mathlib.Omega.{arith}
use mathlib.Core.Path.{◌≡◌, sym, ◌∙◌}
use lib.ListN.{length}
use Rattle.lists.specs.Lists.{span}
use Rattle.flat.proofs.Written.{Written}
use Rattle.flat.proofs.Spans.{rows_none, rows_more, rows_end}
use Rattle.answers.specs.Rows.{outline_width}
use Rattle.value.specs.Figures.{outlined_in}
use Rattle.value.proofs.Reading.{outlined_wide, outlined_set}
use Rattle.value.proofs.lines.put_lines.Given as goal

abbrev pub invariant-loop-k : goal.invariant-loop-k
invariant-loop-k l =
    (length l.out ≡ l.count * outline_width) × Written outline_width (outlined_in l.table l.lines) (span 0 l.count) l.k (l.k * outline_width) l.out
