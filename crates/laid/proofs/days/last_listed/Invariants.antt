-- `last_listed` meets its contract: none of the dates passed works.
use mathlib.Core.Path.{◌≡◌}
use Prim.Native.Nat.{◌+◌, ◌-◌, ◌≤◌}
use Rattle.lists.specs.Lists.{span as dates, keep}
use Rattle.laid.specs.Listed.{in_row, worked_in}
use Rattle.laid.proofs.days.last_listed.Given as goal

abbrev pub invariant-loop-date : goal.invariant-loop-date
invariant-loop-date l =
    (l.date ≤ l.span.last + 1) × (worked_in l.days l.span l.span.first l.span.last ≡ keep (in_row l.span.row l.span.base l.days) (dates l.span.first (l.date - l.span.first)))
