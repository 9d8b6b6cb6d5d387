-- `test_dates` meets its contract: what is left to find, with what is found, is all.
use mathlib.Core.Path.{◌≡◌}
use Prim.Native.Nat.{◌+◌, ◌-◌, ◌≤◌}
use lib.ListN.{length}
use Rattle.laid.specs.Listed.{worked_between}
use Rattle.laid.proofs.days.test_dates.Given as goal

abbrev pub invariant-loop-date : goal.invariant-loop-date
invariant-loop-date l =
    (l.first ≤ l.date)
    × (l.tested + (l.last + 1 - l.date) ≡ l.last + 1 - l.first)
    × (l.working + length (worked_between l.row l.base l.days l.date l.last) ≡ length (worked_between l.row l.base l.days l.first l.last))
