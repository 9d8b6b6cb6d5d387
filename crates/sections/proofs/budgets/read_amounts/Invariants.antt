-- `read_amounts` meets its contract: one amount a turn.
use Rattle.format.specs.Codec.{stay}
use Rattle.format.specs.Format.{amount}
use Rattle.sections.proofs.Lists.{Going}
use Rattle.sections.proofs.budgets.read_amounts.Given as goal

abbrev pub invariant-loop : goal.invariant-loop
invariant-loop l = Going (λ (x : Unit {0}). amount) stay l.book l.count tt l.first l.counter tt l.next
