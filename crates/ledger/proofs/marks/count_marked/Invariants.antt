-- `count_marked` meets its contract: one mark a turn.
use Prim.Native.Nat.{◌+◌, ◌≤◌}
use mathlib.Core.Path.{◌≡◌}
use lib.ListN.{length}
use Rattle.ledger.specs.Accounts.{is_marked, marked_of}
use Rattle.ledger.proofs.Named.{onward}
use Rattle.ledger.proofs.marks.count_marked.Given as goal

abbrev pub invariant-loop-i : goal.invariant-loop-i
invariant-loop-i l =
    (l.i ≤ l.count) × (l.found ≤ l.i) × (l.found + length (onward (is_marked l.marks) l.count l.i) ≡ length (marked_of l.marks l.count))
