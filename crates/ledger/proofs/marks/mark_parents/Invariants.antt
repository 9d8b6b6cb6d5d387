-- `mark_parents` meets its contract: one mark a turn.
use Prim.Native.Nat.{◌≤◌}
use mathlib.Core.Path.{◌≡◌}
use mathlib.Core.List.{foldl}
use Rattle.ledger.specs.Accounts.{marked_by, is_marked, marked_of}
use Rattle.ledger.proofs.Named.{onward}
use Rattle.ledger.proofs.marks.mark_parents.Given as goal

abbrev pub invariant-loop-i : goal.invariant-loop-i
invariant-loop-i l =
    (l.i ≤ l.count) × (foldl (marked_by (λ i. i)) l.marks (onward (is_marked l.parents) l.count l.i) ≡ foldl (marked_by (λ i. i)) l.initial.marks (marked_of l.parents l.count))
