-- `measure_rows` meets its contract: one row a turn.
use Prim.Native.Nat.{◌*◌}
use mathlib.Core.Path.{◌≡◌}
use lib.ListN.{length}
use Rattle.lists.specs.Lists.{span}
use Rattle.flat.proofs.Written.{Written}
use Rattle.earned.proofs.Measuring.{measured_in}
use Rattle.earned.proofs.measured.measure_rows.Given as goal

abbrev pub invariant-loop-i : goal.invariant-loop-i
invariant-loop-i l =
    (length l.out ≡ length l.budgets * 5) × Written 5 (measured_in l.technique l.parents l.schedule l.units l.costs l.budgets) (span 0 (length l.budgets)) l.i (l.i * 5) l.out
