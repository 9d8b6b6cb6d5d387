-- `reach` meets its contract: one row a turn.
use Rattle.variances.specs.Days.{Takes}
use Rattle.variances.proofs.stretch.reach.Given as goal

abbrev pub invariant-loop-i : goal.invariant-loop-i
invariant-loop-i l = Takes l.initial.wide l.table l.i l.width l.at l.wide
