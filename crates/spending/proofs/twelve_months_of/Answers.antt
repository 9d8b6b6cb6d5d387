-- `twelve_months_of` meets its contract: all the points, by twelve months.
use Rattle.model.specs.TwelveMonths.{spending_months, twelve_months}
use Rattle.answers.specs.Rows.{twelve_months_rows}
use Rattle.spending.specs.Grained.{rows_by, are_held}
use Rattle.spending.proofs.twelve_months_of.Goals as goal

pub returns : goal.returns
unfolding rows_by are_held twelve_months_rows twelve_months spending_months
returns c = c.rows_of.ensures
