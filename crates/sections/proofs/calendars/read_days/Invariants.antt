-- `read_days` meets its contract: each date is read after the one before it.
use Prim.Native.Nat.{ℕ}
use Rattle.format.specs.Format.{rising}
use Rattle.sections.proofs.Lists.{Going}
use Rattle.sections.proofs.calendars.read_days.Given as goal

abbrev pub invariant-loop : goal.invariant-loop
invariant-loop l = Going rising (λ (b d : ℕ). d) l.book l.count 0 l.first l.counter l.before l.next
