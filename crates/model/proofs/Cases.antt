-- Small cases at the edges of the definitions, by computation.
use Rattle.std.specs.Prelude.{None, Option, Some}
use mathlib.Core.Path.{◌≡◌, refl}
use mathlib.Core.Bool.{Bool, true, false}
use mathlib.Core.List.{List, [], ◌∷◌, ◌++◌, map, flat_map, zip_with}
use Prim.Native.Nat.{ℕ}
use native.Mathlib.Omega.{arith}
use lib.ListN.{get_or}
use lib.Ieee.{Float, of_int, mul, div, lt}
use lib.IntN.{ℤ, pos, negsuc, ◌+ℤ◌, ◌-ℤ◌}
use mir.Syntax.{w64}
use Rattle.integer.specs.Clamp.{clamp}
use Rattle.integer.specs.Folds.{saturated}
use Rattle.money.specs.declared.costs.Cost.{Cost}
use Rattle.money.specs.Scale.{in_range, scaled_by}
use Rattle.money.specs.Shares.{share_of, shares_from}
use Rattle.floats.specs.Rounding.{rounded, whole_of}
use Rattle.floats.specs.Figures.{nought, one as all, earned_of}
use Rattle.format.specs.declared.Status.{Status}
use Rattle.format.specs.declared.Status.TheVariants.{NotStarted, InProgress, Completed}
use Rattle.format.specs.declared.EvTechnique.{EvTechnique}
use Rattle.format.specs.declared.EvTechnique.TheVariants.{Physical, Duration, Units, ZeroHundred, FiftyFifty, Custom}
use Rattle.format.specs.declared.EtcTechnique.TheVariants as etc
use Rattle.format.specs.declared.ResourceKind.{ResourceKind}
use Rattle.format.specs.declared.ResourceKind.TheVariants.{Labor, Nonlabor}
use Rattle.format.specs.declared.Accrual.TheVariants.{Start, End, Uniform}
use Rattle.format.specs.declared.Region.TheVariants as regions
use Rattle.format.specs.Enumeration.{resource_kind_number}
use Rattle.format.specs.Book.{Exception, Calendar, Activity, Resource, Assignment, Expense, BaselineLine, Book}
use Rattle.lists.specs.Lists.{any, span, keep}
use Rattle.model.specs.declared.Way.{Way}
use Rattle.model.specs.declared.Way.TheVariants.{Planned, Actual, Remaining}
use Rattle.model.specs.Calendar.{is_working, exception_on, usually_works, is_region_holiday, works_on, calendar_of}
use Rattle.model.specs.Days.{dates_between, day_list, planned_days, days_since, actual_days, remaining_from, days_left, remaining_days, days_of}
use Rattle.model.specs.Amounts.{on, spread_over, saturated_sum, is_charged, point_on, points_between}
use Rattle.model.specs.Tree.{Parents, parents, indices, is_leaf, leaves, steps, walk, steps_made, walk_up, brought, roll_up}
use Rattle.model.specs.Costs.{price_among, price_on, priced, accrued, assignment_amounts, expense_amounts, assignments_of, expenses_of, by_day, own_cost, cost_of, costs, project_cost, of_kind, kind_cost, kind_units, expense_cost, actual_by_kind, budget_by_day, spending_between}
use Rattle.model.specs.Planned.{first_line}
use Rattle.model.specs.Earned.{units_done, units_in_all, performance}
use Rattle.model.proofs.Calendar.{weekday_is}
use Rattle.model.proofs.Days.{day_list_one}

abbrev max : ℤ
max = pos 0x7fff_ffff_ffff_ffff

-- ---- the roll-up

abbrev rows : Parents → List ℤ → List ℤ
rows ps own = map (roll_up (λ a b. clamp w64 (a +ℤ b)) ps (λ i. get_or own i (pos 0))) (indices ps)

-- parents, the activities' own figures, their rows
abbrev trees : List (Parents × List ℤ × List ℤ)
trees =
    -- an activity that is its own parent, alone and with a leaf: each of the count + 1 steps brings the figure
    (Some 0 ∷ [], pos 100 ∷ [], pos 300 ∷ [])
    ∷ (Some 0 ∷ Some 0 ∷ [], pos 0 ∷ pos 100 ∷ [], pos 300 ∷ pos 100 ∷ [])
    -- 0 and 1 are each other's parent, 2 and 3 stand under 0
    ∷ (Some 1 ∷ Some 0 ∷ Some 0 ∷ Some 0 ∷ [], pos 0 ∷ pos 0 ∷ pos 100 ∷ pos 0 ∷ [], pos 300 ∷ pos 200 ∷ pos 100 ∷ pos 0 ∷ [])
    -- a parent's row saturates at each step
    ∷ (None ∷ Some 0 ∷ Some 0 ∷ Some 0 ∷ [], pos 0 ∷ max ∷ pos 1 ∷ negsuc 0 ∷ [], (max -ℤ pos 1) ∷ max ∷ pos 1 ∷ negsuc 0 ∷ [])
    -- and starts from its own figure, whatever its index
    ∷ (Some 2 ∷ Some 2 ∷ None ∷ [], max ∷ pos 3 ∷ negsuc 4 ∷ [], max ∷ pos 3 ∷ (max -ℤ pos 2) ∷ [])
    ∷ []

pub tree_rows : map (λ (t : Parents × List ℤ × List ℤ). rows t.0 t.1) trees ≡ map (λ (t : Parents × List ℤ × List ℤ). t.2) trees
unfolding roll_up brought walk_up walk steps flat_map span keep
tree_rows = refl

-- the walk of an activity that is its own parent, by its limit
pub steps_made_lem : (steps_made (Some 0 ∷ []) 1 0 ≡ 1) × (steps_made (Some 0 ∷ []) 2 0 ≡ 2)
unfolding steps_made walk steps
steps_made_lem = (refl, refl)

-- ---- calendars

abbrev dates : ℕ → List ℕ → List ℕ → List Exception → Calendar
dates week holidays extra_days exceptions = record { week = week; region = regions.None; holidays = holidays; extra_days = extra_days; exceptions = exceptions }

abbrev idle : ℕ → List Exception
idle day = record { day = day; working = false } ∷ []

abbrev working : ℕ → List Exception
working day = record { day = day; working = true } ∷ []

-- 19723 is a Monday and 19728 a Saturday: a calendar, a date, whether it works
abbrev calendars : List (Calendar × ℕ × Bool)
calendars =
    -- bit 0 is Monday, bit 5 Saturday
    (dates 1 [] [] [], 19723, true)
    ∷ (dates 1 [] [] [], 19728, false)
    ∷ (dates 32 [] [] [], 19728, true)
    -- a holiday rests, an extra day works, also on a holiday
    ∷ (dates 1 (19723 ∷ []) [] [], 19723, false)
    ∷ (dates 1 [] (19728 ∷ []) [], 19728, true)
    ∷ (dates 1 (19723 ∷ []) (19723 ∷ []) [], 19723, true)
    -- an exception comes before all else
    ∷ (dates 1 [] (19723 ∷ []) (idle 19723), 19723, false)
    ∷ (dates 1 (19728 ∷ []) [] (working 19728), 19728, true)
    -- a holiday, an extra day or an exception is of its own date alone
    ∷ (dates 1 (19722 ∷ 19724 ∷ []) [] [], 19723, true)
    ∷ (dates 1 [] (19727 ∷ 19729 ∷ []) [], 19728, false)
    ∷ (dates 1 [] [] (idle 19722 ++ idle 19724), 19723, true)
    ∷ []

pub calendar_cases : map (λ (c : Calendar × ℕ × Bool). is_working c.0 c.1) calendars ≡ map (λ (c : Calendar × ℕ × Bool). c.2) calendars
unfolding is_working exception_on usually_works is_region_holiday works_on any
calendar_cases = rw (weekday_is 19723 (omega arith), weekday_is 19728 (omega arith))

-- a day without a weekday does not work
pub no_weekday : works_on 127 None ≡ false
unfolding works_on
no_weekday = refl

-- ---- prices

-- units are spread first, then each day's share is cut: 2 at 50 over two days cost nothing
pub priced_by_day : priced (pos 2) (20000 ∷ 20001 ∷ []) (λ day. pos 50) ≡ on 20000 (pos 0) ∷ on 20001 (pos 0) ∷ []
unfolding priced spread_over share_of shares_from zip_with scaled_by in_range
priced_by_day = refl

-- each share at the price of its own day
pub own_price : priced (pos 200) (20000 ∷ 20001 ∷ []) pos ≡ on 20000 (pos 20000) ∷ on 20001 (pos 20001) ∷ []
unfolding priced spread_over share_of shares_from zip_with scaled_by in_range
own_price = refl

-- ---- accruals: all on the first day, all on the last, or spread; without days nothing

pub accruals : map (accrued (pos 7) (20000 ∷ 20001 ∷ 20002 ∷ [])) (Start ∷ End ∷ Uniform ∷ [])
    ≡ (on 20000 (pos 7) ∷ []) ∷ (on 20002 (pos 7) ∷ []) ∷ (on 20000 (pos 3) ∷ on 20001 (pos 2) ∷ on 20002 (pos 2) ∷ []) ∷ []
unfolding accrued spread_over share_of shares_from zip_with
accruals = refl

pub no_days : map (accrued (pos 7) []) (Start ∷ End ∷ Uniform ∷ []) ≡ [] ∷ [] ∷ [] ∷ []
unfolding accrued spread_over shares_from zip_with
no_days = refl

-- ---- the baseline: of two lines of an activity the first counts

abbrev line : ℕ → ℤ → BaselineLine
line activity cost = record { activity = activity; start = 20000; finish = 20000; minutes = 0; cost = cost }

pub first_of_two : first_line (line 1 (pos 7) ∷ line 0 (pos 100) ∷ line 0 (pos 200) ∷ []) 0 ≡ Some (line 0 (pos 100))
unfolding first_line
first_of_two = refl

-- ---- activities of one day, under any calendar

abbrev pub activity : Option ℕ → Status → ℕ → ℕ → Option ℕ → Option ℕ → Activity
activity parent status start finish actual_start actual_finish =
    record {
      parent = parent;
      calendar = None;
      status = status;
      early_start = start;
      early_finish = finish;
      actual_start = actual_start;
      actual_finish = actual_finish;
      working_minutes = 0;
      remaining_minutes = 0;
      percent = None;
    }

abbrev book_by : EvTechnique → Calendar → Option ℕ → List Activity → List Resource → List Assignment → List Expense → Book
book_by technique calendar data_date activities resources assignments expenses =
    record {
      data_date = data_date;
      technique = technique;
      forecast = etc.Remaining;
      calendars = calendar ∷ [];
      activities = activities;
      resources = resources;
      assignments = assignments;
      expenses = expenses;
      baseline = None;
      budgets = [];
      log = [];
      funds = [];
      periods = [];
      records = [];
    }

abbrev pub book : Calendar → Option ℕ → List Activity → List Resource → List Assignment → List Expense → Book
book = book_by Physical

abbrev at100 : ResourceKind → Resource
at100 kind = record { kind = kind; prices = record { from = None; per_unit = pos 100 } ∷ [] }

abbrev assigned : ℕ → ℕ → ℤ → ℤ → Assignment
assigned activity resource planned actual = record { activity = activity; resource = Some resource; planned = planned; actual = actual; remaining = pos 0 }

abbrev spent : ℕ → ℤ → Expense
spent activity planned = record { activity = activity; accrual = Uniform; planned = planned; actual = pos 0; remaining = pos 0 }

abbrev planned : Activity
planned = activity None NotStarted 20000 20000 None None

module _ (calendar : Calendar) where
  one : (d : ℕ) → day_list calendar d d ≡ d ∷ []
  one d = day_list_one calendar d d (omega arith)

  -- planned, actual and remaining days of an activity, by the data date
  abbrev days : Option ℕ → Activity → List (List ℕ)
  days data_date a = map (λ (way : Way). days_of (book calendar data_date (a ∷ []) [] [] []) way 0) (Planned ∷ Actual ∷ Remaining ∷ [])

  pub edge_days :
      -- an actual finish without a start
      (days None (activity None Completed 20000 20000 None (Some 20003)) ≡ (20000 ∷ []) ∷ (20003 ∷ []) ∷ [] ∷ [])
      -- neither
      × (days None (activity None Completed 20000 20000 None None) ≡ (20000 ∷ []) ∷ [] ∷ [] ∷ [])
      -- the day before the first data date
      × (days (Some 10957) (activity None InProgress 20000 20000 (Some 10957) None) ≡ (20000 ∷ []) ∷ (10957 ∷ []) ∷ (20000 ∷ []) ∷ [])
      -- an early finish before the early start: its planned day is the one, its remaining day the other
      × (days (Some 20010) (activity None InProgress 20005 20001 None None) ≡ (20005 ∷ []) ∷ [] ∷ (20001 ∷ []) ∷ [])
      -- an actual start alone, and one after the actual finish, whatever the data date
      × (days None (activity None InProgress 20000 20000 (Some 20003) None) ≡ (20000 ∷ []) ∷ (20003 ∷ []) ∷ (20000 ∷ []) ∷ [])
      × (days (Some 20010) (activity None Completed 20000 20000 (Some 20004) (Some 20003)) ≡ (20000 ∷ []) ∷ (20004 ∷ []) ∷ [] ∷ [])
  unfolding days_of planned_days actual_days days_since remaining_days days_left remaining_from calendar_of
  edge_days = (
    rw (one 20000, one 20003),
    rw (one 20000),
    rw (one 20000, before),
    rw (turned, one 20001),
    rw (one 20000, one 20003),
    rw (one 20000, after),
  )
    where
      before : day_list calendar 10957 10956 ≡ 10957 ∷ []
      before = day_list_one calendar 10957 10956 (omega arith)

      after : day_list calendar 20004 20003 ≡ 20004 ∷ []
      after = day_list_one calendar 20004 20003 (omega arith)

      turned : day_list calendar 20005 20001 ≡ 20005 ∷ []
      turned = day_list_one calendar 20005 20001 (omega arith)

  -- the spending goes activity after activity, each with its assignments and then its expenses
  abbrev ordered : Book
  ordered = book calendar None (planned ∷ planned ∷ []) (at100 Labor ∷ []) (assigned 1 0 max (pos 0) ∷ []) (spent 1 (pos 3) ∷ spent 0 (negsuc 4) ∷ [])

  pub spending_order : spending_between ordered 20000 20000 ≡ on 20000 (max -ℤ pos 2) ∷ []
  unfolding
      spending_between budget_by_day by_day assignments_of expenses_of assignment_amounts expense_amounts accrued priced price_on price_among spread_over
      days_of planned_days calendar_of points_between dates_between point_on is_charged saturated_sum parents any span keep flat_map zip_with share_of shares_from
      scaled_by in_range saturated leaves is_leaf
  spending_order = rw (one 20000)

  -- a parent's own expense is in its cost and in the spending, and not in the project's cost
  abbrev parental : Book
  parental = book calendar None (planned ∷ activity (Some 0) NotStarted 20000 20000 None None ∷ []) [] [] (spent 0 (pos 100) ∷ spent 1 (pos 1) ∷ [])

  abbrev unspent : ℤ → Cost
  unspent z = record { budget = z; actual = pos 0; remaining = pos 0 }

  pub parent_own_expense :
      (costs parental ≡ unspent (pos 101) ∷ unspent (pos 1) ∷ [])
      × (project_cost parental ≡ unspent (pos 1))
      × (spending_between parental 20000 20000 ≡ on 20000 (pos 101) ∷ [])
  unfolding
      costs cost_of project_cost leaves is_leaf roll_up brought walk_up walk steps spending_between budget_by_day own_cost by_day assignments_of expenses_of
      expense_amounts accrued spread_over days_of planned_days actual_days remaining_days days_left calendar_of points_between dates_between point_on
      is_charged saturated_sum parents any span keep flat_map zip_with share_of shares_from saturated
  parent_own_expense = (rw (one 20000), rw (one 20000), rw (one 20000))

  -- by kind each assignment is summed by itself; the activity's cost goes through all of them, and saturates before the last
  abbrev worked : Book
  worked =
      book calendar None (activity None InProgress 20000 20000 (Some 20000) (Some 20000) ∷ []) (at100 Labor ∷ at100 Nonlabor ∷ [])
      (assigned 0 0 (pos 0) max ∷ assigned 0 1 (pos 0) (pos 5) ∷ assigned 0 0 (pos 0) (negsuc 4) ∷ []) []

  pub kinds_and_cost :
      (actual_by_kind worked 0 ≡ record { labor = max -ℤ pos 5; nonlabor = pos 5; material = pos 0; expense = pos 0; labor_units = max -ℤ pos 5; nonlabor_units = pos 5 })
      × ((own_cost worked 0).actual ≡ max -ℤ pos 5)
  unfolding
      actual_by_kind kind_cost kind_units resource_kind_number expense_cost of_kind own_cost by_day assignments_of expenses_of assignment_amounts expense_amounts priced price_on
      price_among spread_over days_of planned_days actual_days days_since remaining_days days_left remaining_from calendar_of saturated_sum keep flat_map zip_with
      share_of shares_from scaled_by in_range saturated
  kinds_and_cost = (rw (one 20000), rw (one 20000))

  -- the units of an unstarted activity count, their cost does not
  abbrev unstarted : Book
  unstarted = book calendar None (planned ∷ []) (at100 Labor ∷ []) (assigned 0 0 (pos 0) (pos 5) ∷ []) []

  pub unstarted_units : actual_by_kind unstarted 0
      ≡ record { labor = pos 0; nonlabor = pos 0; material = pos 0; expense = pos 0; labor_units = pos 5; nonlabor_units = pos 0 }
  unfolding
      actual_by_kind kind_cost kind_units resource_kind_number expense_cost of_kind assignments_of expenses_of assignment_amounts expense_amounts priced spread_over days_of
      actual_days saturated_sum keep zip_with shares_from saturated
  unstarted_units = refl

  -- ---- earned value of a budget of 1,000: a technique, a status, what is earned

  -- a quarter done as judged, a third of its minutes worked, no units
  abbrev quarter_done : Status → Activity
  quarter_done status =
      record {
        parent = None;
        calendar = None;
        status = status;
        early_start = 20000;
        early_finish = 20000;
        actual_start = None;
        actual_finish = None;
        working_minutes = 1440;
        remaining_minutes = 960;
        percent = Some (pos 2500);
      }

  abbrev done : EvTechnique → Status → Float
  done technique status = performance (book_by technique calendar None (quarter_done status ∷ []) [] [] []) 0

  abbrev techniques : List (EvTechnique × Status × ℤ)
  techniques =
      -- before the start only a percent that was judged counts
      (Physical, NotStarted, pos 250)
      ∷ (Duration, NotStarted, pos 0)
      ∷ (Units, NotStarted, pos 0)
      ∷ (ZeroHundred, NotStarted, pos 0)
      ∷ (FiftyFifty, NotStarted, pos 0)
      ∷ (Custom (pos 2000), NotStarted, pos 0)
      ∷ (Physical, InProgress, pos 250)
      ∷ (Duration, InProgress, pos 333)
      -- without units, by duration
      ∷ (Units, InProgress, pos 333)
      ∷ (ZeroHundred, InProgress, pos 0)
      ∷ (FiftyFifty, InProgress, pos 500)
      ∷ (Custom (pos 2000), InProgress, pos 200)
      -- from nothing to all
      ∷ (Custom (negsuc 0), InProgress, pos 0)
      ∷ (Custom (pos 12000), InProgress, pos 1000)
      ∷ (ZeroHundred, Completed, pos 1000)
      ∷ []

  pub earned_cases : map (λ (t : EvTechnique × Status × ℤ). earned_of (pos 1000) (done t.0 t.1)) techniques ≡ map (λ (t : EvTechnique × Status × ℤ). t.2) techniques
  unfolding performance units_done units_in_all assignments_of keep flat_map saturated rounded whole_of of_int mul div lt
  earned_cases = refl

  -- an activity under way without a percent, and units, by its minutes in all and those that remain
  abbrev measured : EvTechnique → List Assignment → ℕ → ℕ → Float
  measured technique units minutes left =
      performance (book_by technique calendar None
      (record {
        parent = None;
        calendar = None;
        status = InProgress;
        early_start = 20000;
        early_finish = 20000;
        actual_start = None;
        actual_finish = None;
        working_minutes = minutes;
        remaining_minutes = left;
        percent = None;
      }
      ∷ []) [] units []) 0

  -- 3 units done, and one less than none to do
  abbrev overdone : List Assignment
  overdone = record { activity = 0; resource = None; planned = pos 0; actual = pos 3; remaining = negsuc 0 } ∷ []

  -- no percent and no minutes are nothing; what is done is from nothing to all, also where more minutes remain than there are, or more units are done
  pub measured_cases : map (earned_of (pos 1000))
      (measured Physical [] 600 300
      ∷ measured Duration [] 0 0
      ∷ measured Duration [] 600 900
      ∷ measured Units overdone 600 300
      ∷ [])
      ≡ pos 0 ∷ pos 0 ∷ pos 0 ∷ pos 1000 ∷ []
  unfolding performance units_done units_in_all assignments_of keep flat_map saturated rounded whole_of of_int mul div lt
  measured_cases = refl

  -- each activity by its own status: completed, and unstarted without a percent
  pub by_status : map (performance (book calendar None (activity None Completed 20000 20000 None None ∷ planned ∷ []) [] [] [])) (0 ∷ 1 ∷ []) ≡ all ∷ nought ∷ []
  unfolding performance of_int div lt
  by_status = refl
