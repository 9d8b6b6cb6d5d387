-- `fill_expenses` meets its contract: one expense a turn.
use mathlib.Core.Path.{◌≡◌, refl, sym, ◌∙◌}
use borrow.Author.Rules.{rules}
use mir.Syntax.{w64}
use denote.Enum.Declared.{tag_of}
use Rattle.integer.specs.Linear.{back}
use Rattle.format.specs.contracts.Accrual.{the_type}
use Rattle.format.specs.declared.Accrual.{Accrual}
use Rattle.format.specs.declared.Accrual.TheVariants.{Start, End, Uniform}
use Rattle.format.specs.Enumeration.{accrual_number}
use Rattle.records.specs.Decoded.{expense_of}
use Rattle.sections.specs.Sections.{elements}
use Rattle.activities.proofs.Rows.{rows_none, rows_more, rows_end}
use Rattle.charges.specs.Expensed.{accrual_row, amounts_row}
use Rattle.charges.proofs.Expensing.{accrual_wide, amounts_wide}
use Rattle.charges.proofs.expensed.fill_expenses.Goals as goal

pub loop-i-init : goal.loop-i-init
loop-i-init c =
    let room = c.requires in
    (rows_none _ _ _ _ _ _ accrual_wide _ room.0, rows_none _ _ _ _ _ _ amounts_wide _ room.1)

numbered : (a : Accrual) → tag_of the_type a ≡ accrual_number a
unfolding accrual_number
numbered Start = refl
numbered End = refl
numbered Uniform = refl

pub loop-i-preserved : goal.loop-i-preserved
unfolding expense_of accrual_row amounts_row
loop-i-preserved c =
    let loop = c.loop-i in
    let more = c.loop-i-test.true in
    let e = c.read_expense-e.result in (
      rows_more loop.invariant.0 accrual_wide more c.read_expense-e.ensures (rw (← numbered e.accrual) c.put_row.ensures),
      rows_more loop.invariant.1 amounts_wide more c.read_expense-e.ensures
          (rw (back w64 e.planned (search rules), back w64 e.actual (search rules), back w64 e.remaining (search rules)) at c.put_row-in-loop-i.ensures),
    )

pub shape_of-accruals : goal.shape_of-accruals
shape_of-accruals c = c.loop-i.invariant.0.long ∙ sym c.requires.0

pub shape_of-amounts : goal.shape_of-amounts
shape_of-amounts c = c.loop-i.invariant.1.long ∙ sym c.requires.1

pub returns : goal.returns
unfolding elements
returns c =
    let inv = c.loop-i.invariant in
    let left = c.loop-i-test.false in
    record {
      booked = rows_end inv.0 left;
      counted = rows_end inv.1 left;
    }
