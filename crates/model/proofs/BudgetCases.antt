-- Small cases of forecasts, variances, budgets and periods, by computation.
use Rattle.std.specs.Prelude.{None, Option, Some}
use mathlib.Core.Path.{◌≡◌, refl}
use mathlib.Core.List.{List, [], ◌∷◌, map}
use Prim.Native.Nat.{ℕ}
use native.Mathlib.Omega.{arith}
use lib.Ieee.{of_int, mul, div, lt}
use lib.IntN.{ℤ, pos, negsuc}
use Rattle.integer.specs.Folds.{saturated}
use Rattle.floats.specs.Rounding.{rounded, whole_of}
use Rattle.format.specs.declared.Status.TheVariants.{NotStarted}
use Rattle.format.specs.declared.EvTechnique.TheVariants.{Physical}
use Rattle.format.specs.declared.EtcTechnique.{EtcTechnique}
use Rattle.format.specs.declared.EtcTechnique.TheVariants.{Remaining, Planned, Cpi, CpiSpi}
use Rattle.format.specs.declared.ChangeStatus.TheVariants.{Pending, NotApproved}
use Rattle.format.specs.declared.Region.TheVariants as regions
use Rattle.format.specs.Enumeration.{change_status_number}
use Rattle.format.specs.Book.{Calendar, Activity, BaselineLine, Budget, BudgetChange, PeriodRecord, Book}
use Rattle.format.specs.Format.{names}
use Rattle.lists.specs.Lists.{any, span, keep}
use Rattle.model.specs.declared.Earned.{Earned}
use Rattle.model.specs.Calendar.{is_working, exception_on, usually_works, is_region_holiday, works_on}
use Rattle.model.specs.Tree.{parents, is_leaf, steps, walk, steps_made}
use Rattle.model.specs.Forecast.{cpi, spi, to_earn, etc}
use Rattle.model.specs.Variances.{working_up_to, working_between, last_among}
use Rattle.model.specs.Budgets.{budget_for, changes, current_of, proposed_of, has_line, line_accounts, distributed_of, depth_of, funded, not_covered}
use Rattle.model.specs.Periods.{actual_in, is_stored, records_to_date, to_date}
use Rattle.model.proofs.Calendar.{weekday_is}

-- ---- forecasts: budget, planned, earned, actual, remaining; a technique; what is left

abbrev row : ℤ → ℤ → ℤ → ℤ → ℤ → Earned
row budget planned earned actual remaining = record { budget = budget; planned = planned; earned = earned; actual = actual; remaining = remaining }

abbrev forecasts : List (Earned × EtcTechnique × ℤ)
forecasts =
    -- the product of two indices below zero is above it; one alone leaves what is to be earned
    (row (pos 1000) (pos 200) (negsuc 99) (pos 100) (pos 7), CpiSpi, pos 2200)
    ∷ (row (pos 1000) (pos 200) (negsuc 99) (pos 100) (pos 7), Cpi, pos 1100)
    ∷ (row (pos 1000) (pos 200) (negsuc 99) (pos 100) (pos 7), Planned, pos 1100)
    ∷ (row (pos 1000) (pos 200) (negsuc 99) (pos 100) (pos 7), Remaining, pos 7)
    -- at half the cost, and at a quarter of the pace
    ∷ (row (pos 1000) (pos 400) (pos 100) (pos 50) (pos 7), Cpi, pos 450)
    ∷ (row (pos 1000) (pos 400) (pos 100) (pos 50) (pos 7), CpiSpi, pos 1800)
    -- by the rounded product of two rounded quotients: 12.5 exactly, 12 as rounded
    ∷ (row (pos 4) (pos 5) (pos 2) (pos 5) (pos 0), CpiSpi, pos 12)
    -- an index that is absent
    ∷ (row (pos 4) (pos 0) (pos 2) (pos 5) (pos 0), CpiSpi, pos 2)
    ∷ []

pub forecast_cases :
    map (λ (t : Earned × EtcTechnique × ℤ). etc t.1 t.0) forecasts ≡ map (λ (t : Earned × EtcTechnique × ℤ). t.2) forecasts
unfolding etc to_earn cpi spi rounded whole_of of_int mul div lt
forecast_cases = refl

-- ---- variances

abbrev week : ℕ → Calendar
week bits = record { week = bits; region = regions.None; holidays = []; extra_days = []; exceptions = [] }

-- 19723 is a Monday: from the Friday before to the Tuesday after there are two days of work, and less than none the other way
pub working_between_lem :
    (working_between (week 31) 19720 19724 ≡ pos 2)
    × (working_between (week 31) 19724 19720 ≡ negsuc 1)
    × (working_between (week 31) 19724 19724 ≡ pos 0)
unfolding working_between working_up_to is_working exception_on usually_works is_region_holiday works_on any span keep
working_between_lem = (
  rw (weekday_is 19720 (omega arith), weekday_is 19721 (omega arith), weekday_is 19722 (omega arith), weekday_is 19723 (omega arith)),
  rw (weekday_is 19720 (omega arith), weekday_is 19721 (omega arith), weekday_is 19722 (omega arith), weekday_is 19723 (omega arith)),
  refl,
)

abbrev line : ℕ → ℤ → BaselineLine
line activity cost = record { activity = activity; start = 20000; finish = 20000; minutes = 0; cost = cost }

-- of two lines of an activity the last counts
pub last_of_two : last_among (line 0 (pos 100) ∷ line 0 (pos 200) ∷ line 1 (pos 7) ∷ []) 0 ≡ Some (line 0 (pos 200))
unfolding last_among
last_of_two = refl

-- ---- budgets

abbrev under : Option ℕ → Activity
under parent =
    record {
      parent = parent;
      calendar = None;
      status = NotStarted;
      early_start = 20000;
      early_finish = 20000;
      actual_start = None;
      actual_finish = None;
      working_minutes = 0;
      remaining_minutes = 0;
      percent = None;
    }

abbrev money : List Activity → List Budget → List BudgetChange → List ℤ → List ℕ → List PeriodRecord → Book
money activities budgets log funds periods records =
    record {
      data_date = None;
      technique = Physical;
      forecast = Remaining;
      calendars = week 127 ∷ [];
      activities = activities;
      resources = [];
      assignments = [];
      expenses = [];
      baseline = None;
      budgets = budgets;
      log = log;
      funds = funds;
      periods = periods;
      records = records;
    }

-- an activity that is its own parent distributes to itself; its depth ends with its walk
abbrev circle : Book
circle = money (under (Some 0) ∷ []) (record { activity = Some 0; original = pos 7; plan = [] } ∷ []) [] [] [] []

pub own_parent : (depth_of circle 0 ≡ 2) × (distributed_of circle (Some 0) ≡ pos 7) × (distributed_of circle None ≡ pos 0)
unfolding depth_of distributed_of line_accounts has_line current_of budget_for changes names steps_made walk steps parents is_leaf any span keep saturated
own_parent = (refl, refl, refl)

-- a change that was not approved gives a leaf a line, and no money; a budget gives one too
abbrev refused : Book
refused =
    money (under None ∷ under None ∷ under None ∷ []) (record { activity = Some 2; original = pos 5; plan = [] } ∷ [])
    (record { activity = Some 0; amount = pos 9; status = NotApproved } ∷ record { activity = Some 0; amount = pos 4; status = Pending } ∷ []) (pos 3 ∷ []) [] []

pub refused_change :
    (line_accounts refused ≡ 0 ∷ 2 ∷ [])
    × (current_of refused (Some 0) ≡ pos 0)
    × (proposed_of refused (Some 0) ≡ pos 4)
    × (funded refused ≡ pos 3)
    × (not_covered refused ≡ negsuc 2)
unfolding
    line_accounts has_line current_of proposed_of funded not_covered budget_for changes names change_status_number parents is_leaf any span keep saturated
refused_change = (refl, refl, refl, refl, refl)

-- ---- periods

abbrev stored : ℕ → ℤ → PeriodRecord
stored period earned =
    record { period = period; activity = 0; earned = earned; labor = pos 1; nonlabor = pos 0; material = pos 0; expense = pos 0 }

abbrev earned_in : PeriodRecord → ℤ
earned_in r = r.earned

-- periods that close on one day count for each other
abbrev alike : Book
alike = money (under None ∷ []) [] [] [] (20000 ∷ 20000 ∷ []) (stored 0 (pos 5) ∷ stored 1 (pos 7) ∷ [])

-- a period with nothing of its own is absent, however much came before
abbrev between : Book
between = money (under None ∷ []) [] [] [] (19990 ∷ 20000 ∷ 20010 ∷ []) (stored 0 (pos 5) ∷ stored 2 (pos 1) ∷ [])

-- a parent's record does not count
abbrev of_parent : Book
of_parent = money (under None ∷ under (Some 0) ∷ []) [] [] [] (20000 ∷ []) (stored 0 (pos 5) ∷ [])

pub period_cases :
    (map (to_date alike earned_in) (0 ∷ 1 ∷ []) ≡ Some (pos 12) ∷ Some (pos 12) ∷ [])
    × (map (to_date between earned_in) (0 ∷ 1 ∷ 2 ∷ []) ≡ Some (pos 5) ∷ None ∷ Some (pos 6) ∷ [])
    × (map (to_date between actual_in) (0 ∷ 1 ∷ 2 ∷ []) ≡ Some (pos 1) ∷ None ∷ Some (pos 2) ∷ [])
    × (to_date of_parent earned_in 0 ≡ None)
unfolding to_date is_stored records_to_date actual_in parents is_leaf any keep saturated
period_cases = (refl, refl, refl, refl)
