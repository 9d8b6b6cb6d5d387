-- `chain` meets its contract: the loop keeps that the charges from the next one on are chained.
use Prim.Native.Nat.{◌-◌}
use Rattle.spending.proofs.Chaining.{Chaining}
use Rattle.spending.proofs.chains.chain.Given as goal

abbrev pub invariant-loop-k : goal.invariant-loop-k
invariant-loop-k l = Chaining l.initial.links (l.n - l.k) l.links l.heads
