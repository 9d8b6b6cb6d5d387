-- `fill_assignments` meets its contract: one assignment a turn.
use mathlib.Core.Path.{sym, ◌∙◌}
use borrow.Author.Rules.{rules}
use mir.Syntax.{w64}
use Rattle.integer.specs.Linear.{back}
use Rattle.records.specs.Decoded.{assignment_of}
use Rattle.sections.specs.Sections.{elements}
use Rattle.activities.proofs.Rows.{rows_none, rows_more, rows_end}
use Rattle.charges.specs.Assigned.{link_row, units_row}
use Rattle.charges.proofs.Assigning.{link_wide, units_wide}
use Rattle.charges.proofs.assigned.fill_assignments.Goals as goal

pub loop-i-init : goal.loop-i-init
loop-i-init c =
    let room = c.requires in
    (rows_none _ _ _ _ _ _ link_wide _ room.0, rows_none _ _ _ _ _ _ units_wide _ room.1)

pub loop-i-preserved : goal.loop-i-preserved
unfolding assignment_of link_row units_row
loop-i-preserved c =
    let loop = c.loop-i in
    let more = c.loop-i-test.true in
    let x = c.read_assignment-x.result in (
      rows_more loop.invariant.0 link_wide more c.read_assignment-x.ensures (rw (← c.account_of.ensures, ← c.number_or.ensures) c.put_row.ensures),
      rows_more loop.invariant.1 units_wide more c.read_assignment-x.ensures
          (rw (back w64 x.planned (search rules), back w64 x.actual (search rules), back w64 x.remaining (search rules)) at c.put_row-in-loop-i.ensures),
    )

pub shape_of-links : goal.shape_of-links
shape_of-links c = c.loop-i.invariant.0.long ∙ sym c.requires.0

pub shape_of-units : goal.shape_of-units
shape_of-units c = c.loop-i.invariant.1.long ∙ sym c.requires.1

pub returns : goal.returns
unfolding elements
returns c =
    let inv = c.loop-i.invariant in
    let left = c.loop-i-test.false in
    record {
      booked = rows_end inv.0 left;
      counted = rows_end inv.1 left;
    }
