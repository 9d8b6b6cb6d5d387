-- `copy_parents` meets its contract: one parent a turn.
use Prim.Native.Nat.{◌-◌}
use native.Mathlib.Omega.{arith}
use mathlib.Core.Path.{refl}
use lib.ListN.{length}
use borrow.Author.Rules.{rules}
use Rattle.activities.proofs.Rows.{Copied, copied_none, copied_more}
use Rattle.activities.proofs.Scheduling.{parents_copied}
use Rattle.activities.proofs.schedule.copy_parents.Given as goal

abbrev pub invariant-loop-i : goal.invariant-loop-i
invariant-loop-i l = Copied 13 0 l.schedule (length l.initial.out) l.i l.out
