-- The records of the book's definition that the code's structs hold.
use Rattle.format.specs.Book as book
use Rattle.records.specs.declared.activities.Activity.{Activity}
use Rattle.records.specs.declared.activities.Assignment.{Assignment}
use Rattle.records.specs.declared.activities.Expense.{Expense}
use Rattle.records.specs.declared.activities.BaselineLine.{BaselineLine}
use Rattle.records.specs.declared.budgets.BudgetChange.{BudgetChange}
use Rattle.records.specs.declared.calendars.Exception.{Exception}
use Rattle.records.specs.declared.periods.PeriodRecord.{PeriodRecord}
use Rattle.records.specs.declared.resources.Price.{Price}

unfoldable pub exception_of : Exception → book.Exception
exception_of e = record { day = e.day; working = e.working }

unfoldable pub activity_of : Activity → book.Activity
activity_of a =
    record {
      parent = a.parent;
      calendar = a.calendar;
      status = a.status;
      early_start = a.start;
      early_finish = a.finish;
      actual_start = a.started;
      actual_finish = a.finished;
      working_minutes = a.working;
      remaining_minutes = a.remaining;
      percent = a.percent;
    }

unfoldable pub price_of : Price → book.Price
price_of p = record { from = p.from; per_unit = p.amount }

unfoldable pub assignment_of : Assignment → book.Assignment
assignment_of a =
    record {
      activity = a.activity;
      resource = a.resource;
      planned = a.planned;
      actual = a.actual;
      remaining = a.remaining;
    }

unfoldable pub expense_of : Expense → book.Expense
expense_of e =
    record {
      activity = e.activity;
      accrual = e.accrual;
      planned = e.planned;
      actual = e.actual;
      remaining = e.remaining;
    }

unfoldable pub baseline_line_of : BaselineLine → book.BaselineLine
baseline_line_of l = record { activity = l.activity; start = l.start; finish = l.finish; minutes = l.minutes; cost = l.cost }

unfoldable pub budget_change_of : BudgetChange → book.BudgetChange
budget_change_of b = record { activity = b.activity; amount = b.amount; status = b.status }

unfoldable pub period_record_of : PeriodRecord → book.PeriodRecord
period_record_of r =
    record {
      period = r.period;
      activity = r.activity;
      earned = r.earned;
      labor = r.labor;
      nonlabor = r.nonlabor;
      material = r.material;
      expense = r.expense;
    }
