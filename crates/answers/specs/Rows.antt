-- The rows of each call: numbers in the field order of the Rust's structs, signed ones in two's complement, floats as their bits, an absent value as 0 0, a present one as 1 and it.
use Rattle.std.specs.Prelude.{ℕ, ◌+◌, Bool, cond, Float, None, Option, Some, option_map}
use mathlib.Core.List.{List, [], ◌∷◌, ◌++◌, map, flat_map}
use Rattle.format.specs.declared.EtcTechnique.{EtcTechnique}
use Rattle.format.specs.Book.{Book}
use Rattle.floats.specs.Figures.{bits_of}
use Rattle.money.specs.Words.{bits}
use Rattle.money.specs.declared.costs.Cost.{Cost}
use Rattle.model.specs.declared.ActualByKind.{ActualByKind}
use Rattle.model.specs.declared.Earned.{Earned}
use Rattle.model.specs.declared.Indices.{Indices}
use Rattle.model.specs.Amounts.{Dated}
use Rattle.model.specs.Forecast.{indices_of, etc, eac, vac}
use Rattle.model.specs.Tree.{parents, indices}
use Rattle.model.specs.Outline.{Line, outline}
use Rattle.model.specs.Costs.{costs, project_cost, actual_by_kind, spending_between}
use Rattle.model.specs.Months.{spending_by_month}
use Rattle.model.specs.TwelveMonths.{TwelveMonths, twelve_months}
use Rattle.model.specs.Planned.{planned_curve_between}
use Rattle.model.specs.Earned.{earned_at, earned_value, project_earned, spent_in, performance}
use Rattle.model.specs.Periods.{PeriodPoint, period_points}
use Rattle.model.specs.Variances.{Variance, variances}
use Rattle.model.specs.Budgets.{BudgetLine, budget_lines, funded, not_covered}
use Rattle.rows.specs.Rows.{optional}

abbrev pub Rows : Type 0
Rows = List (List ℕ)

-- ---- costs

unfoldable pub cost_row : Cost → List ℕ
cost_row c = bits c.budget ∷ bits c.actual ∷ bits c.remaining ∷ []

unfoldable pub kind_row : ActualByKind → List ℕ
kind_row a =
    bits a.labor ∷ bits a.nonlabor ∷ bits a.material ∷ bits a.expense ∷ bits a.labor_units ∷ bits a.nonlabor_units ∷ []

-- a row for each activity
unfoldable pub costs_rows : Book → Rows
costs_rows book = map cost_row (costs book)

-- one row
unfoldable pub project_cost_rows : Book → Rows
project_cost_rows book = cost_row (project_cost book) ∷ []

-- a row for each activity
unfoldable pub actual_by_kind_rows : Book → Rows
actual_by_kind_rows book = map (λ (i : ℕ). kind_row (actual_by_kind book i)) (indices (parents book))

-- ---- by date

-- the day, then the amount
abbrev pub point_row : Dated → List ℕ
point_row x = x.day ∷ bits x.amount ∷ []

unfoldable pub point_rows : List Dated → List ℕ
point_rows xs = flat_map point_row xs

-- a row for each date that something falls on, between two dates
unfoldable pub spending_rows : ℕ → ℕ → Book → Rows
spending_rows from to book = map point_row (spending_between book from to)

-- a row for each month that something falls in
unfoldable pub spending_by_month_rows : Book → Rows
spending_by_month_rows book = map point_row (spending_by_month book)

-- how many numbers a row of twelve months has: `TWELVE_WIDTH` of src/lib.rt
abbrev pub twelve_width : ℕ
twelve_width = 3

-- the last month's first day, the sum, and 1 at the largest sum
unfoldable pub twelve_row : TwelveMonths → List ℕ
twelve_row x = x.first ∷ bits x.sum ∷ cond x.largest 1 0 ∷ []

-- a row for each month from the first to the last that something falls in
unfoldable pub twelve_months_rows : Book → Rows
twelve_months_rows book = map twelve_row (twelve_months book)

-- a row for each point of the planned curve between two dates
unfoldable pub planned_curve_rows : ℕ → ℕ → Book → Rows
planned_curve_rows from to book = map point_row (planned_curve_between book from to)

-- ---- earned value

-- how many numbers a row of earned value has: `EARNED_WIDTH` of src/lib.rt
abbrev pub earned_width : ℕ
earned_width = 7

-- the five figures, then what is spent of the budget, if there is a budget
unfoldable pub earned_row : Earned → List ℕ
earned_row e =
    bits e.budget ∷ bits e.planned ∷ bits e.earned ∷ bits e.actual ∷ bits e.remaining ∷ optional (option_map bits (spent_in e))

-- a row for each activity, at a status date
unfoldable pub earned_value_rows : ℕ → Book → Rows
earned_value_rows date book = map earned_row (earned_value book date)

-- one row
unfoldable pub project_earned_rows : ℕ → Book → Rows
project_earned_rows date book = earned_row (project_earned book date) ∷ []

-- how many numbers a row of the outline has: `OUTLINE_WIDTH` of src/lib.rt
abbrev pub outline_width : ℕ
outline_width = 2 + earned_width

-- the line's level and index, then the row of that activity in `earned_value`
unfoldable pub outline_row : ℕ → Book → Line → List ℕ
outline_row date book x = x.level ∷ x.index ∷ earned_row (earned_at book date x.index)

-- a row for each line of the outline, at a status date
unfoldable pub outline_rows : ℕ → Book → Rows
outline_rows date book = map (outline_row date book) (outline (parents book))

-- one row of one number: how much of an activity is done, under the book's technique
unfoldable pub performance_rows : ℕ → Book → Rows
performance_rows i book = (bits_of (performance book i) ∷ []) ∷ []

-- ---- forecasts and indices

-- an index by the float's bits, where it is present
unfoldable pub index_bits : Bool → Float → Option ℕ
index_bits present value = cond present (Some (bits_of value)) None

-- ETC, EAC and VAC
unfoldable pub estimates_row : EtcTechnique → Earned → List ℕ
estimates_row technique e = bits (etc technique e) ∷ bits (eac technique e) ∷ bits (vac technique e) ∷ []

-- CPI, SPI and TCPI, each present or absent
unfoldable pub indices_row : Indices → List ℕ
indices_row x = optional (index_bits x.has_cpi x.cpi) ++ (optional (index_bits x.has_spi x.spi) ++ optional (index_bits x.has_tcpi x.tcpi))

unfoldable pub forecast_row : EtcTechnique → Earned → List ℕ
forecast_row technique e = estimates_row technique e ++ indices_row (indices_of e)

-- one row of an activity at a status date: etc, eac, vac, cpi, spi and tcpi, under the book's forecast
unfoldable pub indices_rows : ℕ → ℕ → Book → Rows
indices_rows i date book = forecast_row book.forecast (earned_at book date i) ∷ []

-- the same of the project
unfoldable pub project_indices_rows : ℕ → Book → Rows
project_indices_rows date book = forecast_row book.forecast (project_earned book date) ∷ []

-- ---- periods, baseline, budgets

-- a period's index, its close and the planned value at it, then what is earned and spent to date, if records of it are stored
unfoldable pub period_row : PeriodPoint → List ℕ
period_row p = p.period ∷ p.finish ∷ bits p.planned ∷ (optional (option_map bits p.earned) ++ optional (option_map bits p.actual))

-- a row for each financial period
unfoldable pub period_points_rows : Book → Rows
period_points_rows book = map period_row (period_points book)

-- zeros for none, else 1, then start, finish, duration and cost
unfoldable pub variance_row : Option Variance → List ℕ
variance_row None = 0 ∷ 0 ∷ 0 ∷ 0 ∷ 0 ∷ []
variance_row (Some v) = 1 ∷ bits v.start ∷ bits v.finish ∷ bits v.duration ∷ bits v.cost ∷ []

-- a row for each activity
unfoldable pub variances_rows : Book → Rows
variances_rows book = map variance_row (variances book)

-- an activity by its index, the project by none; what is scheduled is always present
unfoldable pub budget_row : BudgetLine → List ℕ
budget_row l =
    optional l.activity
    ++ (l.depth
    ∷ bits l.original
    ∷ bits l.current
    ∷ bits l.proposed
    ∷ bits l.distributed
    ∷ bits l.planned
    ∷ optional (Some (bits l.scheduled)))

-- a row for each line of the budget
unfoldable pub budget_rows : Book → Rows
budget_rows book = map budget_row (budget_lines book)

-- what the sources give, and what of the project's current budget they do not cover
unfoldable pub funding_row : Book → List ℕ
funding_row book = bits (funded book) ∷ bits (not_covered book) ∷ []

-- one row
unfoldable pub funding_rows : Book → Rows
funding_rows book = funding_row book ∷ []
