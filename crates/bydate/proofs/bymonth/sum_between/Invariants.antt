-- `sum_between` meets its contract: the loop keeps that with the points that are left all are counted and added.
use Rattle.bydate.proofs.Monthly.{Adding}
use Rattle.bydate.proofs.bymonth.sum_between.Given as goal

abbrev pub invariant-loop-date : goal.invariant-loop-date
invariant-loop-date l = Adding l.base l.table l.first l.last l.date l.points l.total
