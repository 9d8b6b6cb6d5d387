-- `sum_between` meets its contract: the loop keeps that with the points that are left all are added.
use Rattle.money.specs.Exact.{value_of}
use Rattle.twelve.proofs.Adding.{Adding}
use Rattle.twelve.proofs.sums.sum_between.Given as goal

abbrev pub invariant-loop-date : goal.invariant-loop-date
invariant-loop-date l = Adding l.base l.table l.first l.last l.date (value_of l.total)
