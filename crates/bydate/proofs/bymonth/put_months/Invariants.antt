-- `put_months` meets its contract: the loop keeps that with the rows of the months that are left all are written.
use Prim.Native.Nat.{◌+◌, ◌-◌, ◌*◌, ◌≤◌}
use Rattle.bydate.proofs.Writing.{Putting}
use Rattle.bydate.proofs.MonthDays.{Here}
use Rattle.bydate.proofs.Monthly.{months_from}
use Rattle.bydate.proofs.bymonth.put_months.Given as goal

abbrev pub invariant-loop-date : goal.invariant-loop-date
invariant-loop-date l =
    (l.from ≤ l.date) × (l.j ≤ 2 * (l.date - l.from)) × (l.date ≤ l.to → Here l.date l.month l.first) × Putting (months_from l.base l.table l.to l.from) (months_from l.base l.table l.to l.date) l.initial.out l.out l.j

abbrev pub decreases-loop-date : goal.decreases-loop-date
decreases-loop-date l = l.to + 1 - l.date
