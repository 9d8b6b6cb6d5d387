-- `read_prices` meets its contract: one price a turn.
use Rattle.format.specs.Codec.{stay}
use Rattle.format.specs.Format.{price}
use Rattle.sections.proofs.Lists.{Going}
use Rattle.sections.proofs.resources.read_prices.Given as goal

abbrev pub invariant-loop : goal.invariant-loop
invariant-loop l = Going (λ (x : Unit {0}). price) stay l.book l.count tt l.first l.counter tt l.next
