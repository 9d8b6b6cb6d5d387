-- `overlay_exceptions` meets its contract: each element is set after those before it.
use Prim.Native.Nat.{ℕ}
use Rattle.format.specs.Book as content
use Rattle.format.specs.Format.{exception}
use Rattle.calendar.proofs.Overlays.{Overlaying}
use Rattle.calendar.proofs.days.overlay_exceptions.Given as goal

abbrev pub invariant-loop : goal.invariant-loop
invariant-loop l =
    Overlaying l.base (λ (e : content.Exception). e.day) (λ e. e.working) exception (λ (b : ℕ) (e : content.Exception). e.day) l.book l.end 0 l.initial.next l.initial.days l.counter l.before l.next l.days
