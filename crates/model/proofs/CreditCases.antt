-- Credits below 64 bits, by computation, under any calendar but where a case has two days: a price result there is −2^63, and what is made of it follows.
use Rattle.std.specs.Prelude.{None, Some}
use Prim.Native.Nat.{ℕ}
use mathlib.Core.Path.{◌≡◌, refl}
use mathlib.Core.Bool.{true}
use mathlib.Core.List.{List, [], ◌∷◌, map, flat_map, zip_with}
use native.Mathlib.Omega.{arith}
use lib.Ieee.{of_int, mul, div, lt}
use lib.IntN.{ℤ, pos, negsuc, neg_ℤ}
use Rattle.integer.specs.Folds.{saturated}
use Rattle.integer.specs.Sums.{sum, total}
use Rattle.lists.specs.Lists.{any, span, keep}
use Rattle.money.specs.declared.costs.Cost.{Cost}
use Rattle.money.specs.Scale.{in_range, scaled_by}
use Rattle.money.specs.Shares.{share_of, shares_from}
use Rattle.money.specs.Exact.{is_word}
use Rattle.floats.specs.Rounding.{rounded, whole_of}
use Rattle.format.specs.declared.Status.TheVariants.{Completed}
use Rattle.format.specs.declared.EtcTechnique.TheVariants.{Remaining, Planned}
use Rattle.format.specs.declared.ResourceKind.TheVariants.{Labor}
use Rattle.format.specs.declared.Region.TheVariants as regions
use Rattle.format.specs.Enumeration.{resource_kind_number}
use Rattle.format.specs.Book.{Calendar, Activity, Resource, Assignment, BaselineLine, Book}
use Rattle.model.specs.declared.Earned.{Earned}
use Rattle.model.specs.Calendar.{is_working, exception_on, usually_works, is_region_holiday, works_on, calendar_of}
use Rattle.model.specs.Days.{dates_between, working_days, day_list, planned_days, days_since, actual_days, remaining_from, days_left, remaining_days, days_of}
use Rattle.model.specs.Amounts.{on, spread_over, saturated_sum, is_charged, point_on, points_between, last_day, points}
use Rattle.model.specs.Tree.{parents, is_leaf, leaves, steps, walk, walk_up, brought, roll_up}
use Rattle.model.specs.Costs.{price_among, price_on, priced, accrued, assignment_amounts, expense_amounts, assignments_of, expenses_of, by_day, own_cost, cost_of, costs, project_cost, of_kind, kind_cost, kind_units, expense_cost, actual_by_kind, budget_by_day, spending_between}
use Rattle.model.specs.Planned.{first_line, line_of, budget_of, days_by, listed_days, planned_amounts, planned_on, planned_by_day, running, planned_curve}
use Rattle.model.specs.Earned.{performance, leaf_earned, own_earned, earned_at, earned_value, spent_in}
use Rattle.model.specs.Forecast.{to_earn, etc, eac, vac}
use Rattle.model.specs.Variances.{variance_from}
use Rattle.model.specs.TwelveMonths.{Monthly, falling, month_sum, twelve_sum, is_spanned, months, are_words}
use Rattle.model.proofs.Calendar.{weekday_is}
use Rattle.model.proofs.Cases.{activity, book}
use Rattle.model.proofs.SpentCases.{one, started, paid, figures, small}

abbrev max : ℤ
max = pos 0x7fff_ffff_ffff_ffff

-- −2^63
abbrev min : ℤ
min = negsuc 0x7fff_ffff_ffff_ffff

abbrev at : ℤ → Resource
at price = record { kind = Labor; prices = record { from = None; per_unit = price } ∷ [] }

-- all units done that were planned
abbrev done : ℕ → ℕ → ℤ → Assignment
done activity resource units = record { activity = activity; resource = Some resource; planned = units; actual = units; remaining = pos 0 }

abbrev completed : ℕ → ℕ → Activity
completed start finish = activity None Completed start finish (Some start) None

-- a budget, all of it spent
abbrev cost : ℤ → Cost
cost z = record { budget = z; actual = z; remaining = pos 0 }

module _ (calendar : Calendar) where
  -- `credit-overflow`: 2^63 − 1 units at −1.01
  abbrev pub overflow : Book
  overflow = book calendar None (completed 20000 20000 ∷ []) (at (negsuc 100) ∷ []) (done 0 0 max ∷ []) []

  -- the size of what is earned ends at 9 × 10^15
  abbrev pub overflowed : Earned
  overflowed = record { budget = min; planned = min; earned = negsuc 8999999999999999; actual = min; remaining = pos 0 }

  pub overflow_costs :
      (costs overflow ≡ cost min ∷ [])
      × (actual_by_kind overflow 0 ≡ record { labor = min; nonlabor = pos 0; material = pos 0; expense = pos 0; labor_units = max; nonlabor_units = pos 0 })
      × (spending_between overflow 20000 20000 ≡ on 20000 min ∷ [])
  unfolding
      costs cost_of roll_up brought walk_up walk steps actual_by_kind kind_cost kind_units resource_kind_number expense_cost of_kind spending_between budget_by_day own_cost
      by_day assignments_of expenses_of assignment_amounts expense_amounts priced price_on price_among spread_over days_of planned_days actual_days days_since remaining_days
      days_left calendar_of points_between dates_between point_on is_charged saturated_sum parents any span keep flat_map zip_with share_of shares_from scaled_by in_range
      saturated
  overflow_costs = (rw (one calendar), rw (one calendar), rw (one calendar))

  pub overflow_earned : earned_value overflow 47481 ≡ overflowed ∷ []
  unfolding
      earned_value earned_at own_earned leaf_earned is_leaf parents any budget_of line_of first_line cost_of own_cost roll_up brought walk_up walk steps by_day assignments_of
      expenses_of assignment_amounts priced price_on price_among spread_over days_of planned_days actual_days days_since remaining_days days_left calendar_of planned_on
      planned_amounts listed_days days_by saturated_sum saturated span keep flat_map zip_with share_of shares_from scaled_by in_range performance rounded whole_of of_int mul div lt
  overflow_earned = rw (one calendar)

  -- all of it is spent; a forecast that would be lower stays there
  pub overflow_forecast :
      (spent_in overflowed ≡ Some (pos 10000))
      × (to_earn overflowed ≡ negsuc 9214372036854775807)
      × (eac Remaining overflowed ≡ min)
      × (vac Remaining overflowed ≡ pos 0)
      × (eac Planned overflowed ≡ min)
  unfolding scaled_by in_range to_earn etc eac vac
  overflow_forecast = (refl, refl, refl, refl, refl)

  -- from a baseline of the same cost, and from one of nothing
  abbrev line : ℤ → BaselineLine
  line z = record { activity = 0; start = 20000; finish = 20000; minutes = 0; cost = z }

  pub overflow_variances : ((variance_from overflow 0 (line min)).cost ≡ pos 0) × ((variance_from overflow 0 (line (pos 0))).cost ≡ max)
  unfolding
      variance_from cost_of roll_up brought walk_up walk steps own_cost by_day assignments_of expenses_of assignment_amounts priced price_on price_among spread_over days_of
      planned_days actual_days days_since remaining_days days_left calendar_of saturated_sum parents span keep flat_map zip_with share_of shares_from scaled_by in_range
      saturated
  overflow_variances = (rw (one calendar), rw (one calendar))

  -- `credit-edge`: −2^63 − 0.01 and −2^63 − 1, each −2^63, as is their sum
  abbrev edge : Book
  edge =
      book calendar None (completed 20000 20000 ∷ completed 20000 20000 ∷ []) (at (negsuc 106) ∷ at (negsuc 107) ∷ [])
      (done 0 0 (pos 8619973866219416643) ∷ done 1 1 (pos 8540159293384051675) ∷ []) []

  pub edge_costs : (costs edge ≡ cost min ∷ cost min ∷ []) × (project_cost edge ≡ cost min)
  unfolding
      costs cost_of project_cost leaves is_leaf roll_up brought walk_up walk steps own_cost by_day assignments_of expenses_of assignment_amounts priced price_on price_among
      spread_over days_of planned_days actual_days days_since remaining_days days_left calendar_of saturated_sum parents any span keep flat_map zip_with share_of shares_from
      scaled_by in_range saturated
  edge_costs = (rw (one calendar), rw (one calendar))

  -- `credit-expense`: an expense of −2^63 is not priced
  abbrev expense : Book
  expense = small calendar (started None ∷ []) (paid 0 min min ∷ [])

  -- `spent_signs`: the largest number and its negative, spent of 1 and of −1
  abbrev pub signs : Book
  signs =
      small calendar (started None ∷ started None ∷ started None ∷ started None ∷ [])
      (paid 0 (pos 1) (neg_ℤ max) ∷ paid 1 (negsuc 0) max ∷ paid 2 (negsuc 0) (neg_ℤ max) ∷ paid 3 (pos 1) max ∷ [])

  abbrev pub signed : List Earned
  signed = figures (pos 1) (neg_ℤ max) ∷ figures (negsuc 0) max ∷ figures (negsuc 0) (neg_ℤ max) ∷ figures (pos 1) max ∷ []

  pub spent_earned : (earned_value expense 47481 ≡ figures min min ∷ []) × (earned_value signs 47481 ≡ signed)
  unfolding
      earned_value earned_at own_earned leaf_earned is_leaf parents any budget_of line_of first_line cost_of own_cost roll_up brought walk_up walk steps by_day assignments_of
      expenses_of expense_amounts accrued spread_over days_of planned_days actual_days days_since remaining_days remaining_from days_left calendar_of planned_on
      planned_amounts listed_days days_by saturated_sum saturated span keep flat_map zip_with share_of shares_from performance rounded whole_of of_int mul div lt
  spent_earned = (rw (one calendar), rw (one calendar))

  pub spent_signs : map spent_in signed ≡ Some min ∷ Some min ∷ Some max ∷ Some max ∷ []
  unfolding scaled_by in_range
  spent_signs = refl

-- ---- over two days: 20,000 is a Friday, 20,001 a Saturday

abbrev every_day : Calendar
every_day = record { week = 127; region = regions.None; holidays = []; extra_days = []; exceptions = [] }

both : day_list every_day 20000 20001 ≡ 20000 ∷ 20001 ∷ []
unfolding day_list working_days dates_between is_working exception_on usually_works is_region_holiday works_on any span keep
both = rw (weekday_is 20000 (omega arith), weekday_is 20001 (omega arith))

-- `credit-by-day`: each day's result is held by itself, then their sum is; the curve spreads the budget so found
abbrev by_days : Book
by_days = book every_day None (completed 20000 20001 ∷ []) (at (negsuc 9999) ∷ []) (done 0 0 max ∷ []) []

pub by_days_lem :
    (spending_between by_days 20000 20001 ≡ on 20000 min ∷ on 20001 min ∷ [])
    × ((own_cost by_days 0).budget ≡ min)
    × (planned_curve by_days ≡ on 20000 (negsuc 4611686018427387903) ∷ on 20001 min ∷ [])
unfolding
    planned_curve running planned_by_day planned_amounts listed_days days_by budget_of line_of first_line cost_of roll_up brought walk_up walk steps leaves is_leaf spending_between
    budget_by_day own_cost by_day assignments_of expenses_of assignment_amounts priced price_on price_among spread_over days_of planned_days calendar_of points points_between
    dates_between last_day point_on is_charged saturated_sum parents any span keep flat_map zip_with share_of shares_from scaled_by in_range saturated
by_days_lem = (rw both, rw both, rw both)

-- `credit-month`: −2^63 and 1 on the day after; their sum of twelve months is of 64 bits, where 2^63 − 1 and 1 are not
abbrev month : List Monthly
month = falling 144297 min ∷ falling 144297 (pos 1) ∷ []

pub month_sum_lem : (months month ≡ 144297 ∷ []) × (twelve_sum month 144297 ≡ negsuc 0x7fff_ffff_ffff_fffe) × (are_words month ≡ true)
unfolding months is_spanned keep span any twelve_sum month_sum sum total are_words is_word
month_sum_lem = (refl, refl, refl)
