-- `settle_rows` meets its contract: one activity a turn.
use Rattle.variances.specs.Completion.{settled}
use Rattle.variances.proofs.Changing.{Changing}
use Rattle.variances.proofs.completion.settle_rows.Given as goal

abbrev pub invariant-loop-i : goal.invariant-loop-i
invariant-loop-i l = Changing 5 (settled l.schedule l.costs) l.n l.initial.out l.i l.out
