-- `put_planned` meets its contract: one figure a turn.
use Rattle.planned.specs.Values.{planned_at}
use Rattle.earned.proofs.Dating.{Putting}
use Rattle.earned.proofs.dated.put_planned.Given as goal

abbrev pub invariant-loop-i : goal.invariant-loop-i
invariant-loop-i l = Putting (planned_at l.known.from l.width l.days l.date l.listed l.budgets) l.initial.out l.i l.out
