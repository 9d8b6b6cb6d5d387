-- `skip` meets its contract: each kind of element is read by its own reader.
use mathlib.Core.Path.{◌≡◌, ap}
use Rattle.sections.proofs.elements.skip.Goals as goal
use Rattle.format.specs.Position.{Pos}

-- where reading goes on
next_is : {A : Type 0} {v : A} {q : Pos} {r : A × Pos} → (v, q) ≡ r → q ≡ r.1
next_is e = ap (λ x. x.1) e

pub returns-in-Calendar : goal.returns-in-Calendar
returns-in-Calendar c = rw c.in-Calendar.is (next_is c.read_calendar.ensures)

pub returns-in-Activity : goal.returns-in-Activity
returns-in-Activity c = rw c.in-Activity.is (next_is c.read_activity.ensures)

pub returns-in-Resource : goal.returns-in-Resource
returns-in-Resource c = rw c.in-Resource.is (next_is c.read_resource.ensures)

pub returns-in-Assignment : goal.returns-in-Assignment
returns-in-Assignment c = rw c.in-Assignment.is (next_is c.read_assignment.ensures)

pub returns-in-Expense : goal.returns-in-Expense
returns-in-Expense c = rw c.in-Expense.is (next_is c.read_expense.ensures)

pub returns-in-BaselineLine : goal.returns-in-BaselineLine
returns-in-BaselineLine c = rw c.in-BaselineLine.is (next_is c.read_baseline_line.ensures)

pub returns-in-BudgetChange : goal.returns-in-BudgetChange
returns-in-BudgetChange c = rw c.in-BudgetChange.is (next_is c.read_budget_change.ensures)

pub returns-in-Period : goal.returns-in-Period
returns-in-Period c = rw c.in-Period.is (next_is c.date.ensures)

pub returns-in-PeriodRecord : goal.returns-in-PeriodRecord
returns-in-PeriodRecord c = rw c.in-PeriodRecord.is (next_is c.read_period_record.ensures)
