-- `is_used` meets its contract: one activity a turn, until one has the calendar.
use Prim.Native.Nat.{ℕ, ◌<◌}
use mathlib.Core.Path.{◌≡◌}
use mathlib.Core.Bool.{false}
use Rattle.variances.specs.Changed.{row_of}
use Rattle.variances.specs.Days.{is_under}
use Rattle.variances.proofs.days.is_used.Given as goal

abbrev pub invariant-loop-i : goal.invariant-loop-i
invariant-loop-i l = (k : ℕ) → k < l.i → is_under l.schedule l.number k (row_of 5 l.out k) ≡ false
