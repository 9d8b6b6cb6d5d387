-- `parent_marks` meets its contract: the parent of an activity a turn.
use Prim.Native.Nat.{ℕ, ◌*◌, ◌+◌, ◌-◌, ◌<◌}
use native.Mathlib.Omega.{arith}
use mathlib.Core.Path.{◌≡◌, sym, ap, ◌∙◌}
use mathlib.Core.Logic.{⊎_elim}
use lib.ListN.{length, get_or, set, length-set, length-replicate}
use lib.Seq.{set_out}
use borrow.Author.Rules.{rules}
use Rattle.format.specs.Book.{Book}
use Rattle.activities.specs.Schedule.{schedule_of}
use Rattle.activities.proofs.Scheduling.{schedule_length, parent_at}
use Rattle.activities.proofs.Marking.{Marking, marking_none, marking_more, marked_leaves}
use Rattle.activities.proofs.schedule.parent_marks.Given as goal

abbrev pub invariant-loop-i : goal.invariant-loop-i
invariant-loop-i l =
    (length l.marks ≡ 500) × ((book : Book) → l.schedule ≡ schedule_of book → Marking book.activities l.i l.marks)
