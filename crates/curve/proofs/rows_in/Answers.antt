-- `rows_in` meets its contract: the budgets are laid, and their running total is written.
use Rattle.curve.proofs.Curving.{asked_reach, asked_rows}
use borrow.Author.Rules.{rules}
use Rattle.curve.proofs.rows_in.Goals as goal

pub write_totals-requires : goal.write_totals-requires
write_totals-requires c =
    let s = c.requires in
    asked_reach s.asked s.empty c.lay_plan.ensures

pub returns : goal.returns
returns c =
    let s = c.requires in
    asked_rows s.asked s.empty c.lay_plan.ensures c.write_totals.ensures
