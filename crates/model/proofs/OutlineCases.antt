-- The outline of small books under any calendar, and the figures of the activities in it, by computation.
use Rattle.std.specs.Prelude.{None, Option, Some}
use Prim.Native.Nat.{ℕ}
use mathlib.Core.Path.{◌≡◌, refl}
use mathlib.Core.List.{[], ◌∷◌, flat_map, zip_with}
use lib.Ieee.{of_int, mul, div, lt}
use lib.IntN.{pos}
use Rattle.integer.specs.Folds.{saturated}
use Rattle.lists.specs.Lists.{any, span, keep}
use Rattle.money.specs.Shares.{share_of, shares_from}
use Rattle.floats.specs.Rounding.{rounded, whole_of}
use Rattle.format.specs.declared.Status.TheVariants.{NotStarted}
use Rattle.format.specs.Book.{Calendar, Activity, Book}
use Rattle.model.specs.Calendar.{calendar_of}
use Rattle.model.specs.Days.{planned_days, actual_days, days_since, remaining_from, days_left, remaining_days, days_of}
use Rattle.model.specs.Amounts.{spread_over, saturated_sum}
use Rattle.model.specs.Tree.{parents, is_leaf, steps, walk, walk_up, brought, roll_up}
use Rattle.model.specs.Outline.{line, tops, children, branch, branches, outline}
use Rattle.model.specs.Costs.{accrued, expense_amounts, assignments_of, expenses_of, by_day, own_cost, cost_of}
use Rattle.model.specs.Planned.{first_line, line_of, budget_of, days_by, listed_days, planned_amounts, planned_on}
use Rattle.model.specs.Earned.{performance, no_earned, leaf_earned, own_earned, earned_at}
use Rattle.model.proofs.Cases.{activity}
use Rattle.model.proofs.SpentCases.{paid, figures, small, one}

-- planned for one day and not started
abbrev unstarted : Option ℕ → Activity
unstarted parent = activity parent NotStarted 20000 20000 None None

module _ (calendar : Calendar) where
  -- `outline-circle`: 1, which costs 100, hangs on 0, its own parent; 3, which costs 7, stands under 2
  abbrev pub outline_circle : Book
  outline_circle = small calendar (unstarted (Some 0) ∷ unstarted (Some 0) ∷ unstarted None ∷ unstarted (Some 2) ∷ []) (paid 1 (pos 100) (pos 0) ∷ paid 3 (pos 7) (pos 0) ∷ [])

  -- `outline-figures`: a parent that costs 100 itself, a child of 1
  abbrev pub outline_figures : Book
  outline_figures = small calendar (unstarted None ∷ unstarted (Some 0) ∷ []) (paid 0 (pos 100) (pos 0) ∷ paid 1 (pos 1) (pos 0) ∷ [])

  -- `circle-leaf`: a leaf that hangs on a circle
  abbrev pub circle_leaf : Book
  circle_leaf = small calendar (unstarted (Some 0) ∷ unstarted (Some 0) ∷ []) (paid 1 (pos 100) (pos 0) ∷ [])

  pub books_outlined :
      (outline (parents outline_circle) ≡ line 1 2 ∷ line 2 3 ∷ [])
      × (outline (parents outline_figures) ≡ line 1 0 ∷ line 2 1 ∷ [])
      × (outline (parents circle_leaf) ≡ [])
  unfolding outline branches branch tops children parents flat_map keep span
  books_outlined = (refl, refl, refl)

  own_figures :
      (own_earned outline_circle 47481 2 ≡ no_earned)
      × (own_earned outline_circle 47481 3 ≡ figures (pos 7) (pos 0))
      × (own_earned outline_figures 47481 0 ≡ no_earned)
      × (own_earned outline_figures 47481 1 ≡ figures (pos 1) (pos 0))
  unfolding
      own_earned leaf_earned is_leaf parents any budget_of line_of first_line cost_of own_cost roll_up brought walk_up walk steps by_day assignments_of expenses_of
      expense_amounts accrued spread_over days_of planned_days actual_days days_since remaining_days remaining_from days_left calendar_of planned_on planned_amounts
      listed_days days_by saturated_sum saturated span keep flat_map zip_with share_of shares_from performance rounded whole_of of_int mul div lt
  own_figures = (refl, rw (one calendar), refl, rw (one calendar))

  -- of the activities that are listed
  pub figures_outlined :
      (earned_at outline_circle 47481 2 ≡ figures (pos 7) (pos 0))
      × (earned_at outline_circle 47481 3 ≡ figures (pos 7) (pos 0))
      × (earned_at outline_figures 47481 0 ≡ figures (pos 1) (pos 0))
      × (earned_at outline_figures 47481 1 ≡ figures (pos 1) (pos 0))
  unfolding earned_at roll_up brought walk_up walk steps parents span keep flat_map
  figures_outlined =
      let o = own_figures in
      (rw (o.0, o.1), rw o.1, rw (o.2, o.3), rw o.3)
