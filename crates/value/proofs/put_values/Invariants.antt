-- `put_values` meets its contract: one row a turn.
use Prim.Native.Nat.{◌*◌, ◌-◌}
use native.Mathlib.Omega.{arith}
use mathlib.Core.Path.{◌≡◌, ap, sym, ◌∙◌}
use lib.ListN.{length}
use lib.Seq.{sets}
use Rattle.lists.specs.Lists.{span}
use Rattle.model.specs.declared.Earned.{Earned}
use Rattle.flat.proofs.Written.{Written}
use Rattle.flat.proofs.Spans.{rows_none, rows_more, rows_end}
use Rattle.answers.specs.Rows.{earned_width, earned_row}
use Rattle.answers.proofs.SizedEarned.{row_wide}
use Rattle.value.specs.Figures.{earned_in}
use Rattle.value.proofs.Reading.{rows_read}
use Rattle.value.proofs.put_values.Given as goal

abbrev pub invariant-loop-i : goal.invariant-loop-i
invariant-loop-i l =
    (length l.out ≡ l.n * earned_width) × Written earned_width (λ i. earned_row (earned_in l.table i)) (span 0 l.n) l.i (l.i * earned_width) l.out
