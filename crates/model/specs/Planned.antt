-- Planned value: what of the budget at completion is planned to be done by a date.
use Rattle.std.specs.Prelude.{ℕ, Bool, cond, eqb, leb, ℤ, pos, ◌+ℤ◌, None, Option, Some, unwrap_or}
use mathlib.Core.List.{List, [], ◌∷◌, flat_map}
use Rattle.std.specs.Int.{w64}
use Rattle.integer.specs.Clamp.{clamp}
use Rattle.format.specs.Book.{BaselineLine, Book}
use Rattle.lists.specs.Lists.{keep}
use Rattle.model.specs.Lookup.{activity_at}
use Rattle.model.specs.Calendar.{calendar_of}
use Rattle.model.specs.Days.{day_list, planned_days}
use Rattle.model.specs.Amounts.{Dated, on, spread_over, saturated_sum, is_between, points}
use Rattle.model.specs.Tree.{parents, leaves}
use Rattle.model.specs.Costs.{cost_of}

-- ---- budget and span

-- the first line that names activity i
unfoldable pub first_line : List BaselineLine → ℕ → Option BaselineLine
first_line [] i = None
first_line (l ∷ ls) i = cond (eqb l.activity i) (Some l) (first_line ls i)

unfoldable pub line_of : Book → ℕ → Option BaselineLine
line_of book i = first_line (unwrap_or book.baseline []) i

-- from the line of the baseline, else from the cost
abbrev pub budget_by : Option BaselineLine → ℤ → ℤ
budget_by None cost = cost
budget_by (Some line) cost = line.cost

-- document 01's budget of an activity: the budget at completion (BAC)
unfoldable pub budget_of : Book → ℕ → ℤ
budget_of book i = budget_by (line_of book i) (cost_of book i).budget

-- from the line of the baseline, else from the early dates
unfoldable pub days_by : Book → ℕ → Option BaselineLine → List ℕ
days_by book i None = planned_days book (activity_at book i)
days_by book i (Some line) = day_list (calendar_of book (activity_at book i)) line.start line.finish

-- document 01's listed days: the day list of the span under the activity's calendar
unfoldable pub listed_days : Book → ℕ → List ℕ
listed_days book i = days_by book i (line_of book i)

-- ---- at a date

-- the budget as `spread` divides it over the listed days
unfoldable pub planned_amounts : Book → ℕ → List Dated
planned_amounts book i = spread_over (budget_of book i) (listed_days book i)

abbrev pub is_up_to : ℕ → Dated → Bool
is_up_to date x = leb x.day date

-- document 01's planned value of a leaf at a date (PV): the sum of the shares of the listed days up to it
unfoldable pub planned_on : Book → ℕ → ℕ → ℤ
planned_on book date i = saturated_sum (keep (is_up_to date) (planned_amounts book i))

-- ---- the planned curve

-- the same shares of all leaves, in index order
unfoldable pub planned_by_day : Book → List Dated
planned_by_day book = flat_map (planned_amounts book) (leaves (parents book))

-- each point with the total so far
unfoldable pub running : ℤ → List Dated → List Dated
running total [] = []
running total (x ∷ xs) = let next = clamp w64 (total +ℤ x.amount) in on x.day next ∷ running next xs

-- document 01's `planned_curve`: by date over all leaves, then along the dates; a point only where a leaf lists the day
unfoldable pub planned_curve : Book → List Dated
planned_curve book = running (pos 0) (points (planned_by_day book))

-- its points between two dates, both included; none if the first is later
unfoldable pub planned_curve_between : Book → ℕ → ℕ → List Dated
planned_curve_between book from to = keep (is_between from to) (planned_curve book)
