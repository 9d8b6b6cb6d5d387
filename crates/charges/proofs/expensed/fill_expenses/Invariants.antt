-- `fill_expenses` meets its contract: one expense a turn.
use Rattle.format.specs.Format.{expense}
use Rattle.activities.proofs.Rows.{FilledRows}
use Rattle.charges.specs.Expensed.{accrual_row, amounts_row}
use Rattle.charges.proofs.expensed.fill_expenses.Given as goal

abbrev pub invariant-loop-i : goal.invariant-loop-i
invariant-loop-i l =
    FilledRows (expense l.activities) accrual_row 2 l.book l.i-end l.initial.next l.i l.next l.accruals × FilledRows (expense l.activities) amounts_row 3 l.book l.i-end l.initial.next l.i l.next l.amounts
