-- `run_up` meets its contract: the loop keeps that with the dates that are left made totals, all are.
use Rattle.bydate.proofs.Running.{Totalling}
use Rattle.bydate.proofs.totals.run_up.Given as goal

abbrev pub invariant-loop-date : goal.invariant-loop-date
invariant-loop-date l = Totalling l.base l.first l.to l.initial.table l.date l.total l.table
