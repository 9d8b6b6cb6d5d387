-- `fill_rows` meets its contract: one activity a turn.
use Prim.Native.Nat.{◌*◌, ◌-◌}
use native.Mathlib.Omega.{arith}
use mathlib.Core.Path.{ap, sym, ◌∙◌}
use lib.ListN.{length}
use lib.Seq.{sets}
use borrow.Author.Rules.{rules}
use Rattle.format.specs.Format.{activity}
use Rattle.sections.specs.Sections.{elements}
use Rattle.activities.specs.Schedule.{schedule_row}
use Rattle.activities.proofs.Rows.{FilledRows, rows_none, rows_more, rows_end}
use Rattle.activities.proofs.Scheduling.{row_wide}
use Rattle.activities.proofs.schedule.fill_rows.Given as goal

abbrev pub invariant-loop-i : goal.invariant-loop-i
invariant-loop-i l =
    FilledRows (activity l.calendars l.list.count) (schedule_row l.date) 13 l.book l.list.count l.initial.next l.i l.next l.out
