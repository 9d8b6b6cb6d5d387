-- `read_exceptions` meets its contract: each exception is read after the one before it.
use Prim.Native.Nat.{ℕ}
use Rattle.format.specs.Book as book
use Rattle.format.specs.Format.{exception}
use Rattle.sections.proofs.Lists.{Going}
use Rattle.sections.proofs.calendars.read_exceptions.Given as goal

abbrev pub invariant-loop : goal.invariant-loop
invariant-loop l =
    Going exception (λ (b : ℕ) (e : book.Exception). e.day) l.book l.count 0 l.first l.counter l.before l.next
