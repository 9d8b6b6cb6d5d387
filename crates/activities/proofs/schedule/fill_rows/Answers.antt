-- `fill_rows` meets its contract: one activity a turn.
use Prim.Native.Nat.{◌*◌, ◌-◌}
use native.Mathlib.Omega.{arith}
use mathlib.Core.Path.{ap, sym, ◌∙◌}
use lib.ListN.{length}
use lib.Seq.{sets}
use borrow.Author.Rules.{rules}
use Rattle.format.specs.Format.{activity}
use Rattle.sections.specs.Sections.{elements}
use Rattle.activities.specs.Schedule.{schedule_row}
use Rattle.activities.proofs.Rows.{FilledRows, rows_none, rows_more, rows_end}
use Rattle.activities.proofs.Scheduling.{row_wide}
use Rattle.activities.proofs.schedule.fill_rows.Goals as goal

pub loop-i-init : goal.loop-i-init
loop-i-init c = rows_none _ _ _ _ _ _ (row_wide _) _ c.requires

pub slice_bounds-put_row-end : goal.slice_bounds-put_row-end
slice_bounds-put_row-end c = sym (ap length c.row_of.ensures ∙ row_wide _ _)

pub put_row-requires : goal.put_row-requires
put_row-requires c =
    let loop = c.loop-i in
    omega (arith, ap length c.row_of.ensures ∙ row_wide _ _, loop.invariant.long, c.loop-i-test.true)

pub loop-i-preserved : goal.loop-i-preserved
loop-i-preserved c =
    let loop = c.loop-i in
    rows_more loop.invariant (row_wide _) c.loop-i-test.true c.read_activity-activity.ensures (c.put_row.ensures ∙ ap (sets loop.out (loop.i * 13)) c.row_of.ensures)

pub shape_of-out : goal.shape_of-out
shape_of-out c = c.loop-i.invariant.long ∙ sym c.requires

pub returns : goal.returns
unfolding elements
returns c = rows_end c.loop-i.invariant c.loop-i-test.false
