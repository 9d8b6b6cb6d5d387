-- What is planned by a date of the budgets of the activities, by a table of the days of the calendars.
use Rattle.std.specs.Prelude.{ℕ, ◌*◌, List, ℤ}
use Rattle.lists.specs.Lists.{keep}
use Rattle.model.specs.Amounts.{spread_over, saturated_sum}
use Rattle.model.specs.Planned.{is_up_to}
use Rattle.tree.specs.Figures.{figure_of}
use Rattle.laid.specs.Listed.{listed_between}
use Rattle.baseline.specs.Listed.{first_at, last_at, number_at}

-- of an amount over days: the sum of the shares of the days up to the date
unfoldable pub planned_in : ℕ → ℤ → List ℕ → ℤ
planned_in date amount days = saturated_sum (keep (is_up_to date) (spread_over amount days))

-- of a span: over the days that a row of the table lists for it
unfoldable pub planned_by : ℕ → ℕ → List ℕ → ℕ → ℕ → ℕ → ℤ → ℤ
planned_by row base days date first last amount = planned_in date amount (listed_between row base days first last)

-- of activity i, by the days of all calendars
abbrev pub planned_at : ℕ → ℕ → List ℕ → ℕ → List ℕ → List ℤ → ℕ → ℤ
planned_at base width days date listed budgets i = planned_by (number_at listed i * width) base days date (first_at listed i) (last_at listed i) (figure_of budgets i)
