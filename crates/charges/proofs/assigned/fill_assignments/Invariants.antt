-- `fill_assignments` meets its contract: one assignment a turn.
use Rattle.format.specs.Format.{assignment}
use Rattle.activities.proofs.Rows.{FilledRows}
use Rattle.charges.specs.Assigned.{link_row, units_row}
use Rattle.charges.proofs.assigned.fill_assignments.Given as goal

abbrev pub invariant-loop-i : goal.invariant-loop-i
invariant-loop-i l =
    FilledRows (assignment l.activities l.resources) link_row 2 l.book l.i-end l.initial.next l.i l.next l.links × FilledRows (assignment l.activities l.resources) units_row 3 l.book l.i-end l.initial.next l.i l.next l.units
