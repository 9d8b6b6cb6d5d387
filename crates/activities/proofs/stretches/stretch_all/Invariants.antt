-- `stretch_all` meets its contract: the spans of an activity a turn.
use Prim.Native.Nat.{◌-◌}
use native.Mathlib.Omega.{arith}
use mathlib.Core.Path.{◌≡◌}
use borrow.Author.Rules.{rules}
use Rattle.format.specs.Book.{Book}
use Rattle.format.specs.InRange.{InRange}
use Rattle.model.specs.declared.Way.{Way}
use Rattle.activities.specs.Schedule.{schedule_of, first_place, first_in, last_in}
use Rattle.spans.proofs.Covering.{Covering, covering_none, covers_closed}
use Rattle.activities.proofs.Covering.{covering_ways}
use Rattle.activities.proofs.Scheduling.{schedule_length, schedule_past, spans_dated}
use Rattle.activities.proofs.stretches.stretch_all.Given as goal

abbrev pub invariant-loop-i : goal.invariant-loop-i
invariant-loop-i l =
    (book : Book) → InRange book → l.schedule ≡ schedule_of book → (way : Way) → Covering (first_in l.schedule way) (last_in l.schedule way) l.i l.known
