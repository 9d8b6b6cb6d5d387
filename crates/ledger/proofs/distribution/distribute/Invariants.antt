-- `distribute` meets its contract: one activity a turn.
use Prim.Native.Nat.{◌≤◌}
use lib.ListN.{length}
use Rattle.ledger.proofs.Handed.{Giving}
use Rattle.ledger.proofs.distribution.distribute.Given as goal

abbrev pub invariant-loop-i : goal.invariant-loop-i
invariant-loop-i l = (l.i ≤ length l.parents) × Giving l.parents l.marks l.initial.accounts l.i l.accounts
