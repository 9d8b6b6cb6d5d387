-- `first_listed` meets its contract: none of the dates passed works.
use mathlib.Core.Path.{◌≡◌}
use Prim.Native.Nat.{◌≤◌}
use Rattle.laid.specs.Listed.{worked_in}
use Rattle.laid.proofs.days.first_listed.Given as goal

abbrev pub invariant-loop-date : goal.invariant-loop-date
invariant-loop-date l =
    (l.span.first ≤ l.date) × (worked_in l.days l.span l.span.first l.span.last ≡ worked_in l.days l.span l.date l.span.last)
