-- Document 01's example book: what its activities cost, their earned value, the planned curve.
use Rattle.std.specs.Prelude.{Some}
use mathlib.Core.Path.{◌≡◌, refl, ap}
use mathlib.Core.List.{List, [], ◌∷◌, flat_map, zip_with}
use native.Mathlib.Omega.{arith}
use lib.Ieee.{of_int, mul, div, lt}
use lib.IntN.{pos}
use lib.ListN.{get_or}
use Rattle.integer.specs.Folds.{saturated}
use Rattle.lists.specs.Lists.{any, span, keep}
use Rattle.money.specs.declared.costs.Cost.{Cost}
use Rattle.money.specs.Scale.{in_range, scaled_by}
use Rattle.money.specs.Shares.{share_of, shares_from}
use Rattle.floats.specs.Rounding.{rounded, whole_of}
use Rattle.format.specs.Book.{Calendar}
use Rattle.format.proofs.Example.{example}
use Rattle.model.specs.declared.Earned.{Earned}
use Rattle.model.specs.Lookup.{calendar_at}
use Rattle.model.specs.Calendar.{is_working, exception_on, usually_works, is_region_holiday, works_on, calendar_of}
use Rattle.model.specs.Days.{dates_between, working_days, day_list, planned_days, days_since, actual_days, remaining_from, days_left, remaining_days, days_of}
use Rattle.model.specs.Amounts.{Dated, on, spread_over, saturated_sum, is_charged, point_on, points_between, last_day, points}
use Rattle.model.specs.Tree.{parents, steps, walk, walk_up, brought, roll_up, is_leaf, leaves}
use Rattle.model.specs.Costs.{accrued, expense_amounts, assignments_of, expenses_of, by_day, own_cost, cost_of, costs, project_cost, budget_by_day, spending_between}
use Rattle.model.specs.Planned.{first_line, line_of, budget_of, days_by, listed_days, planned_amounts, planned_on, planned_by_day, running, planned_curve, planned_curve_between}
use Rattle.model.specs.Earned.{performance, no_earned, leaf_earned, own_earned, earned_at, earned_value, project_earned, spent_in}
use Rattle.model.proofs.Calendar.{weekday_is}

-- its working days, 1 to 3 January 2024: Monday to Wednesday
abbrev calendar : Calendar
calendar = calendar_at example 0

planned_days_lem : day_list calendar 19723 19725 ≡ 19723 ∷ 19724 ∷ 19725 ∷ []
unfolding day_list working_days dates_between is_working exception_on usually_works is_region_holiday works_on any span keep
planned_days_lem = rw (weekday_is 19723 (omega arith), weekday_is 19724 (omega arith), weekday_is 19725 (omega arith))

actual_days_lem : day_list calendar 19723 19723 ≡ 19723 ∷ []
unfolding day_list working_days dates_between is_working exception_on usually_works is_region_holiday works_on any span keep
actual_days_lem = rw (weekday_is 19723 (omega arith))

remaining_days_lem : day_list calendar 19724 19725 ≡ 19724 ∷ 19725 ∷ []
unfolding day_list working_days dates_between is_working exception_on usually_works is_region_holiday works_on any span keep
remaining_days_lem = rw (weekday_is 19724 (omega arith), weekday_is 19725 (omega arith))

abbrev cost : Cost
cost = record { budget = pos 1000; actual = pos 400; remaining = pos 600 }

pub example_costs : costs example ≡ cost ∷ cost ∷ []
unfolding
    costs cost_of own_cost by_day assignments_of expenses_of expense_amounts accrued roll_up brought walk_up walk steps parents saturated_sum spread_over
    days_of planned_days actual_days days_since remaining_days days_left remaining_from calendar_of span keep share_of shares_from flat_map zip_with saturated
example_costs = rw (planned_days_lem, actual_days_lem, remaining_days_lem)

pub example_project : project_cost example ≡ cost
unfolding
    project_cost leaves is_leaf cost_of own_cost by_day assignments_of expenses_of expense_amounts accrued roll_up brought walk_up walk steps parents
    saturated_sum spread_over days_of planned_days actual_days days_since remaining_days days_left remaining_from calendar_of any span keep share_of shares_from flat_map
    zip_with saturated
example_project = rw (planned_days_lem, actual_days_lem, remaining_days_lem)

pub example_spending : spending_between example 19723 19725 ≡ on 19723 (pos 334) ∷ on 19724 (pos 333) ∷ on 19725 (pos 333) ∷ []
unfolding
    spending_between budget_by_day by_day assignments_of expenses_of expense_amounts accrued spread_over days_of planned_days calendar_of points_between
    dates_between point_on is_charged saturated_sum parents any span keep share_of shares_from flat_map zip_with saturated leaves is_leaf
example_spending = rw (planned_days_lem)

-- ---- earned value at its data date, and the planned curve

abbrev row : Earned
row = record { budget = pos 1000; planned = pos 667; earned = pos 500; actual = pos 400; remaining = pos 600 }

leaf_cost : cost_of example 1 ≡ cost
unfolding costs parents span
leaf_cost = ap (λ (l : List Cost). get_or l 1 cost) example_costs

abbrev shares : List Dated
shares = on 19723 (pos 334) ∷ on 19724 (pos 333) ∷ on 19725 (pos 333) ∷ []

leaf_shares : planned_amounts example 1 ≡ shares
unfolding planned_amounts budget_of line_of first_line listed_days days_by planned_days calendar_of spread_over zip_with share_of shares_from
leaf_shares = rw (leaf_cost, planned_days_lem)

own_rows : (own_earned example 19724 0 ≡ no_earned) × (own_earned example 19724 1 ≡ row)
unfolding own_earned leaf_earned is_leaf parents any budget_of line_of first_line planned_on saturated_sum saturated keep performance rounded whole_of of_int mul div lt
own_rows = (refl, rw (leaf_cost, leaf_shares))

pub example_earned : earned_value example 19724 ≡ row ∷ row ∷ []
unfolding earned_value earned_at roll_up brought walk_up walk steps parents span keep flat_map
example_earned = rw (own_rows.0, own_rows.1)

pub example_total : project_earned example 19724 ≡ row
unfolding project_earned earned_at leaves is_leaf roll_up brought walk_up walk steps parents any span keep flat_map
example_total = rw own_rows.1

pub example_spent : spent_in row ≡ Some (pos 4000)
unfolding scaled_by in_range
example_spent = refl

pub example_curve : planned_curve_between example 10957 47481 ≡ on 19723 (pos 334) ∷ on 19724 (pos 667) ∷ on 19725 (pos 1000) ∷ []
unfolding planned_curve_between planned_curve planned_by_day points points_between dates_between last_day point_on is_charged saturated_sum saturated running leaves is_leaf parents any span keep flat_map
example_curve = rw leaf_shares
