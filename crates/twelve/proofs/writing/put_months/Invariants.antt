-- `put_months` meets its contract: one row a turn.
use Prim.Native.Nat.{◌*◌}
use mathlib.Core.Path.{◌≡◌}
use lib.ListN.{length}
use Rattle.lists.specs.Lists.{span}
use Rattle.flat.proofs.Written.{Written}
use Rattle.answers.specs.Rows.{twelve_width}
use Rattle.twelve.specs.Largest.{summed_row}
use Rattle.twelve.proofs.writing.put_months.Given as goal

abbrev pub invariant-loop-k : goal.invariant-loop-k
invariant-loop-k l =
    (length l.out ≡ length l.sums * twelve_width) × Written twelve_width (summed_row l.first l.largest l.sums) (span 0 (length l.sums)) l.k (l.k * twelve_width) l.out
