-- Earned value of small books with and without a budget, under any calendar, by computation: at the last date of all, the status program's where a book has no
-- data date.
use Rattle.std.specs.Prelude.{None, Option, Some}
use Prim.Native.Nat.{ℕ}
use mathlib.Core.Path.{◌≡◌, refl}
use mathlib.Core.List.{List, [], ◌∷◌, flat_map, zip_with}
use native.Mathlib.Omega.{arith}
use lib.Ieee.{of_int, mul, div, lt}
use lib.IntN.{ℤ, pos, negsuc}
use Rattle.integer.specs.Folds.{saturated}
use Rattle.lists.specs.Lists.{any, span, keep}
use Rattle.money.specs.Shares.{share_of, shares_from}
use Rattle.floats.specs.Rounding.{rounded, whole_of}
use Rattle.format.specs.declared.Status.TheVariants.{NotStarted, InProgress}
use Rattle.format.specs.declared.Accrual.TheVariants.{Uniform}
use Rattle.format.specs.Book.{Calendar, Activity, Expense, Book}
use Rattle.model.specs.declared.Earned.{Earned}
use Rattle.model.specs.Calendar.{calendar_of}
use Rattle.model.specs.Days.{day_list, planned_days, actual_days, days_since, remaining_from, days_left, remaining_days, days_of}
use Rattle.model.specs.Amounts.{spread_over, saturated_sum}
use Rattle.model.specs.Tree.{parents, is_leaf, leaves, steps, walk, walk_up, brought, roll_up}
use Rattle.model.specs.Costs.{accrued, expense_amounts, assignments_of, expenses_of, by_day, own_cost, cost_of}
use Rattle.model.specs.Planned.{first_line, line_of, budget_of, days_by, listed_days, planned_amounts, planned_on}
use Rattle.model.specs.Earned.{performance, no_earned, leaf_earned, own_earned, earned_at, earned_value, project_earned}
use Rattle.model.proofs.Days.{day_list_one}
use Rattle.model.proofs.Cases.{activity, book}

-- in progress on the one day that it was planned for
abbrev pub started : Option ℕ → Activity
started parent = activity parent InProgress 20000 20000 (Some 20000) None

-- planned and paid, with nothing left to pay
abbrev pub paid : ℕ → ℤ → ℤ → Expense
paid i planned actual = record { activity = i; accrual = Uniform; planned = planned; actual = actual; remaining = pos 0 }

-- all of the budget planned, nothing earned, so much spent
abbrev pub figures : ℤ → ℤ → Earned
figures budget actual = record { budget = budget; planned = budget; earned = pos 0; actual = actual; remaining = pos 0 }

module _ (calendar : Calendar) where
  pub one : day_list calendar 20000 20000 ≡ 20000 ∷ []
  one = day_list_one calendar 20000 20000 (omega arith)

  abbrev pub small : List Activity → List Expense → Book
  small activities expenses = book calendar None activities [] [] expenses

  -- `free-repair`: 700 spent without a budget
  abbrev pub free_repair : Book
  free_repair = small (started None ∷ []) (paid 0 (pos 0) (pos 700) ∷ [])

  -- `spent-zero`: neither budget nor spending, nothing of 5, 1 of 20,000
  abbrev pub spent_zero : Book
  spent_zero = small (started None ∷ started None ∷ started None ∷ []) (paid 0 (pos 0) (pos 0) ∷ paid 1 (pos 5) (pos 0) ∷ paid 2 (pos 20000) (pos 1) ∷ [])

  -- `total-cancels`: leaves of 5 and −5 under a parent, 3 spent on each
  abbrev pub total_cancels : Book
  total_cancels = small (started None ∷ started (Some 0) ∷ started (Some 0) ∷ []) (paid 1 (pos 5) (pos 3) ∷ paid 2 (negsuc 4) (pos 3) ∷ [])

  -- `self-parent`: no leaf, an activity that is its own parent and costs 100
  abbrev pub no_leaf : Book
  no_leaf = small (activity (Some 0) NotStarted 20000 20000 None None ∷ []) (paid 0 (pos 100) (pos 0) ∷ [])

  -- `empty`: no activity
  abbrev pub empty : Book
  empty = small [] []

  own_figures :
      (own_earned free_repair 47481 0 ≡ figures (pos 0) (pos 700))
      × (own_earned spent_zero 47481 0 ≡ figures (pos 0) (pos 0))
      × (own_earned spent_zero 47481 1 ≡ figures (pos 5) (pos 0))
      × (own_earned spent_zero 47481 2 ≡ figures (pos 20000) (pos 1))
      × (own_earned total_cancels 47481 0 ≡ no_earned)
      × (own_earned total_cancels 47481 1 ≡ figures (pos 5) (pos 3))
      × (own_earned total_cancels 47481 2 ≡ figures (negsuc 4) (pos 3))
      × (own_earned no_leaf 47481 0 ≡ no_earned)
  unfolding
      own_earned leaf_earned is_leaf parents any budget_of line_of first_line cost_of own_cost roll_up brought walk_up walk steps by_day assignments_of expenses_of
      expense_amounts accrued spread_over days_of planned_days actual_days days_since remaining_days remaining_from days_left calendar_of planned_on planned_amounts
      listed_days days_by saturated_sum saturated span keep flat_map zip_with share_of shares_from performance rounded whole_of of_int mul div lt
  own_figures = (rw one, rw one, rw one, rw one, refl, rw one, rw one, refl)

  pub rows_figured :
      (earned_value free_repair 47481 ≡ figures (pos 0) (pos 700) ∷ [])
      × (earned_value spent_zero 47481 ≡ figures (pos 0) (pos 0) ∷ figures (pos 5) (pos 0) ∷ figures (pos 20000) (pos 1) ∷ [])
      × (earned_value total_cancels 47481 ≡ figures (pos 0) (pos 6) ∷ figures (pos 5) (pos 3) ∷ figures (negsuc 4) (pos 3) ∷ [])
      × (earned_value no_leaf 47481 ≡ no_earned ∷ [])
      × (earned_value empty 47481 ≡ [])
  unfolding earned_value earned_at roll_up brought walk_up walk steps parents span keep flat_map
  rows_figured =
      let o = own_figures in
      (rw o.0, rw (o.1, o.2, o.3), rw (o.4, o.5, o.6), rw o.7, refl)

  pub totals_figured :
      (project_earned free_repair 47481 ≡ figures (pos 0) (pos 700))
      × (project_earned spent_zero 47481 ≡ figures (pos 20005) (pos 1))
      × (project_earned total_cancels 47481 ≡ figures (pos 0) (pos 6))
      × (project_earned no_leaf 47481 ≡ no_earned)
      × (project_earned empty 47481 ≡ no_earned)
  unfolding project_earned earned_at leaves is_leaf roll_up brought walk_up walk steps parents any span keep flat_map
  totals_figured =
      let o = own_figures in
      (rw o.0, rw (o.1, o.2, o.3), rw (o.5, o.6), refl, refl)
