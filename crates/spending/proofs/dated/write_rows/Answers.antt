-- `write_rows` meets its contract, by day, by month or by twelve months.
use mathlib.Core.Path.{refl}
use mathlib.Core.List.{List}
use Rattle.model.specs.Amounts.{Dated}
use Rattle.bydate.specs.Pointed.{points_in}
use Rattle.answers.proofs.Replies.{puts_if}
use Rattle.spending.specs.Grained.{rows_by, are_held}
use Rattle.spending.proofs.Written.{told}
use Rattle.spending.proofs.dated.write_rows.Goals as goal
use Rattle.spending.proofs.dated.write_rows.Goals.{Start}

-- the points that are asked
abbrev asked : Start → List Dated
asked s = points_in s.args.asked.known.from s.args.table.now s.args.asked.from s.args.asked.to

pub returns-in-Day : goal.returns-in-Day
unfolding rows_by are_held
returns-in-Day c = told (asked (goal.at.returns-in-Day c).Start) c.in-Day.is (puts_if refl c.write_points.ensures)

pub returns-in-Month : goal.returns-in-Month
unfolding rows_by are_held
returns-in-Month c = told (asked (goal.at.returns-in-Month c).Start) c.in-Month.is (puts_if refl c.write_months.ensures)

pub returns-in-TwelveMonths : goal.returns-in-TwelveMonths
unfolding rows_by are_held
returns-in-TwelveMonths c = told (asked (goal.at.returns-in-TwelveMonths c).Start) c.in-TwelveMonths.is c.write_twelve_months.ensures
