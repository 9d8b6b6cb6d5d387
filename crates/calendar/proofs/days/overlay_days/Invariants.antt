-- `overlay_days` meets its contract: each element is set after those before it.
use Prim.Native.Nat.{ℕ}
use Rattle.format.specs.Format.{rising}
use Rattle.calendar.proofs.Overlays.{Overlaying}
use Rattle.calendar.proofs.days.overlay_days.Given as goal

abbrev pub invariant-loop : goal.invariant-loop
invariant-loop l =
    Overlaying l.base (λ (day : ℕ). day) (λ day. l.works) rising (λ (b d : ℕ). d) l.book l.end 0 l.initial.next l.initial.days l.counter l.before l.next l.days
