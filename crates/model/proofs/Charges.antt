-- What is charged to an activity, three ways and by kind; the spending by month; an activity's days, the baseline's and the variances from it. Each on a small
-- book, by computation.
use Rattle.std.specs.Prelude.{Some, None, Option}
use mathlib.Core.Path.{◌≡◌}
use mathlib.Core.List.{List, [], ◌∷◌, map, flat_map, zip_with}
use Prim.Native.Nat.{ℕ, ◌+◌, ◌-◌, ◌≤◌}
use native.Mathlib.Omega.{arith}
use lib.IntN.{ℤ, pos, negsuc}
use Rattle.integer.specs.Folds.{saturated}
use Rattle.money.specs.Scale.{in_range, scaled_by}
use Rattle.money.specs.Shares.{share_of, shares_from}
use Rattle.gregorian.specs.Count.{between, counted, signed}
use Rattle.gregorian.specs.Calendar.{is_leap, leap_day, month_length, days_to_month, is_date, day_number}
use Rattle.gregorian.proofs.Leap.{is_closed}
use Rattle.dates.specs.Date.{is_year, from_ymd}
use Rattle.dates.proofs.Counts.{epoch_is}
use Rattle.dates.proofs.Laws.{date_of_day, ymd_of_lem}
use Rattle.format.specs.declared.Status.{Status}
use Rattle.format.specs.declared.Status.TheVariants.{NotStarted, InProgress}
use Rattle.format.specs.declared.EvTechnique.TheVariants.{Physical}
use Rattle.format.specs.declared.EtcTechnique.TheVariants as etc
use Rattle.format.specs.declared.ResourceKind.{ResourceKind}
use Rattle.format.specs.declared.ResourceKind.TheVariants.{Labor, Nonlabor, Material}
use Rattle.format.specs.declared.Accrual.TheVariants.{Uniform}
use Rattle.format.specs.declared.Region.TheVariants as regions
use Rattle.format.specs.Enumeration.{resource_kind_number}
use Rattle.format.specs.Book.{Calendar, Activity, Resource, Assignment, Expense, BaselineLine, Book}
use Rattle.lists.specs.Lists.{any, span, keep}
use Rattle.model.specs.declared.Way.{Way}
use Rattle.model.specs.declared.Way.TheVariants.{Planned, Actual, Remaining}
use Rattle.model.specs.Calendar.{is_working, exception_on, usually_works, is_region_holiday, works_on, calendar_of}
use Rattle.model.specs.Days.{dates_between, working_days, day_list, planned_days, days_since, actual_days, remaining_from, days_left, remaining_days, days_of}
use Rattle.model.specs.Amounts.{on, spread_over, saturated_sum, is_charged, point_on, points_between, last_day, points}
use Rattle.model.specs.Tree.{parents, steps, walk, walk_up, brought, roll_up}
use Rattle.model.specs.Costs.{price_among, price_on, priced, accrued, assignment_amounts, expense_amounts, assignments_of, expenses_of, by_day, own_cost, cost_of, of_kind, kind_cost, kind_units, expense_cost, actual_by_kind, budget_by_day, spending}
use Rattle.model.specs.Planned.{first_line, line_of, days_by, listed_days}
use Rattle.model.specs.Variances.{working_up_to, working_between, last_among, last_line, variance_from, variance_of, variances}
use Rattle.model.specs.Months.{month_start, spending_by_month}
use Rattle.model.proofs.Calendar.{weekday_is}
use Rattle.model.proofs.Days.{day_list_one}

abbrev max : ℕ
max = 0x7fff_ffff_ffff_ffff

abbrev activity : Option ℕ → Status → ℕ → ℕ → Option ℕ → Option ℕ → Activity
activity parent status start finish actual_start actual_finish =
    record {
      parent = parent;
      calendar = None;
      status = status;
      early_start = start;
      early_finish = finish;
      actual_start = actual_start;
      actual_finish = actual_finish;
      working_minutes = 600;
      remaining_minutes = 300;
      percent = None;
    }

abbrev book : Option ℕ → Calendar → List Activity → List Resource → List Assignment → List Expense → List BaselineLine → Book
book data_date calendar activities resources assignments expenses lines =
    record {
      data_date = data_date;
      technique = Physical;
      forecast = etc.Remaining;
      calendars = calendar ∷ [];
      activities = activities;
      resources = resources;
      assignments = assignments;
      expenses = expenses;
      baseline = Some lines;
      budgets = [];
      log = [];
      funds = [];
      periods = [];
      records = [];
    }

-- not started, on one day
abbrev planned : ℕ → Activity
planned day = activity None NotStarted day day None None

abbrev costing : ResourceKind → ℕ → Resource
costing kind price = record { kind = kind; prices = record { from = None; per_unit = pos price } ∷ [] }

abbrev assigned : ℕ → Option ℕ → ℕ → ℕ → ℕ → Assignment
assigned activity resource planned actual remaining =
    record { activity = activity; resource = resource; planned = pos planned; actual = pos actual; remaining = pos remaining }

abbrev spent : ℕ → ℤ → ℤ → ℤ → Expense
spent activity planned actual remaining = record { activity = activity; accrual = Uniform; planned = planned; actual = actual; remaining = remaining }

-- a month's start by the number of its day
start_of : (m d z : ℕ) → from_ymd (pos 1970) m d ≡ Some (pos z) → month_start z ≡ z + 1 - d
unfolding month_start
start_of m d z e = rw (ymd_of_lem (pos z) (pos 1970) m d (date_of_day (pos 1970) m d (pos z) e)).day

february_starts : (month_start 32 ≡ 31) × (month_start 33 ≡ 31)
unfolding from_ymd is_year between counted signed is_date day_number days_to_month month_length leap_day is_leap
february_starts = (start_of 2 2 32 (rw (is_closed 11970, epoch_is)), start_of 2 3 33 (rw (is_closed 11970, epoch_is)))

module _ (calendar : Calendar) where
  one : (from to : ℕ) → to ≤ from → day_list calendar from to ≡ from ∷ []
  one from to h = day_list_one calendar from to h

  -- ---- planned on 20,005, done on 20,003, to be done on 20,001

  abbrev three_ways : Book
  three_ways =
      book None calendar (activity None InProgress 20005 20001 (Some 20003) (Some 20003) ∷ activity None InProgress 20000 20000 (Some 20003) (Some 20003) ∷ [])
      (costing Labor 500 ∷ costing Nonlabor 300 ∷ costing Material 200 ∷ [])
      (assigned 0 (Some 0) 1 20 300
      ∷ assigned 1 (Some 0) 7 7 7
      ∷ assigned 0 None 5 50 600
      ∷ assigned 0 (Some 1) 2 30 400
      ∷ assigned 0 (Some 2) 3 40 500
      ∷ [])
      (spent 1 (pos 9) (pos 9) (pos 9) ∷ spent 0 (pos 8) (pos 60) (pos 700) ∷ []) []

  -- each assignment's units at its own resource's price, and nothing without one; then the expenses
  pub by_day_lem : map (λ (way : Way). by_day three_ways way 0) (Planned ∷ Actual ∷ Remaining ∷ [])
      ≡ (on 20005 (pos 5) ∷ on 20005 (pos 6) ∷ on 20005 (pos 6) ∷ on 20005 (pos 8) ∷ [])
      ∷ (on 20003 (pos 100) ∷ on 20003 (pos 90) ∷ on 20003 (pos 80) ∷ on 20003 (pos 60) ∷ [])
      ∷ (on 20001 (pos 1500) ∷ on 20001 (pos 1200) ∷ on 20001 (pos 1000) ∷ on 20001 (pos 700) ∷ [])
      ∷ []
  unfolding
      by_day assignments_of expenses_of assignment_amounts expense_amounts accrued priced price_on price_among spread_over days_of planned_days actual_days days_since remaining_days
      days_left remaining_from calendar_of keep flat_map zip_with share_of shares_from scaled_by in_range
  by_day_lem = rw (one 20005 20001 (omega arith), one 20003 20003 (omega arith), one 20001 20001 (omega arith))

  -- the other activity has its own alone
  pub of_the_other : by_day three_ways Planned 1 ≡ on 20000 (pos 35) ∷ on 20000 (pos 9) ∷ []
  unfolding
      by_day assignments_of expenses_of assignment_amounts expense_amounts accrued priced price_on price_among spread_over days_of planned_days calendar_of keep flat_map zip_with
      share_of shares_from scaled_by in_range
  of_the_other = rw (one 20000 20000 (omega arith))

  pub by_kind : actual_by_kind three_ways 0 ≡ record { labor = pos 100; nonlabor = pos 90; material = pos 80; expense = pos 60; labor_units = pos 20; nonlabor_units = pos 30 }
  unfolding
      actual_by_kind kind_cost kind_units resource_kind_number expense_cost of_kind assignments_of expenses_of assignment_amounts expense_amounts accrued priced price_on price_among
      spread_over days_of actual_days days_since calendar_of saturated_sum keep flat_map zip_with share_of shares_from scaled_by in_range saturated
  by_kind = rw (one 20003 20003 (omega arith))

  -- ---- the spending by month: 2 and 3 February 1970, added up day by day and not activity by activity

  abbrev february : Book
  february =
      book None calendar (planned 33 ∷ planned 32 ∷ planned 33 ∷ []) [] []
      (spent 0 (pos max) (pos 0) (pos 0) ∷ spent 1 (pos 5) (pos 0) (pos 0) ∷ spent 2 (negsuc 4) (pos 0) (pos 0) ∷ []) []

  february_days : spending february ≡ on 32 (pos 5) ∷ on 33 (pos 0x7fff_ffff_ffff_fffa) ∷ []
  unfolding
      spending points points_between dates_between last_day point_on is_charged budget_by_day by_day assignments_of expenses_of expense_amounts accrued spread_over days_of
      planned_days calendar_of saturated_sum parents any span keep flat_map zip_with share_of shares_from saturated
  february_days = rw (one 33 33 (omega arith), one 32 32 (omega arith))

  pub by_month_lem : spending_by_month february ≡ on 31 (pos max) ∷ []
  unfolding spending_by_month points points_between dates_between last_day point_on is_charged saturated_sum any span keep saturated
  by_month_lem = rw (february_days, february_starts.0, february_starts.1)

-- ---- a week of Monday to Friday: 19,723 is a Monday, 19,728 a Saturday

abbrev week : Calendar
week = record { week = 31; region = regions.None; holidays = []; extra_days = []; exceptions = [] }

-- due from Monday to the Monday after, begun on Monday, at a data date of Thursday: done up to the day before it, to be done from it on
pub under_way_lem : map (λ (way : Way). days_of (book (Some 19726) week (activity None InProgress 19723 19730 (Some 19723) None ∷ []) [] [] [] []) way 0) (Planned ∷ Actual ∷ Remaining ∷ [])
    ≡ (19723 ∷ 19724 ∷ 19725 ∷ 19726 ∷ 19727 ∷ 19730 ∷ []) ∷ (19723 ∷ 19724 ∷ 19725 ∷ []) ∷ (19726 ∷ 19727 ∷ 19730 ∷ []) ∷ []
unfolding
    days_of planned_days actual_days days_since remaining_days days_left remaining_from day_list working_days dates_between calendar_of is_working exception_on usually_works
    is_region_holiday works_on any span keep
under_way_lem = rw (
  weekday_is 19723 (omega arith),
  weekday_is 19724 (omega arith),
  weekday_is 19725 (omega arith),
  weekday_is 19726 (omega arith),
  weekday_is 19727 (omega arith),
  weekday_is 19728 (omega arith),
  weekday_is 19729 (omega arith),
  weekday_is 19730 (omega arith),
)

-- the leaf is due from Monday to Thursday, and in the baseline from Tuesday to Sunday
abbrev late : Book
late =
    book None week (activity None NotStarted 19723 19724 None None ∷ activity (Some 0) NotStarted 19723 19726 None None ∷ []) [] [] []
    (record { activity = 1; start = 19724; finish = 19729; minutes = 480; cost = pos 100 } ∷ [])

-- without a line the early dates, with one its own
pub listed : map (listed_days late) (0 ∷ 1 ∷ []) ≡ (19723 ∷ 19724 ∷ []) ∷ (19724 ∷ 19725 ∷ 19726 ∷ 19727 ∷ []) ∷ []
unfolding
    listed_days line_of first_line days_by planned_days day_list working_days dates_between calendar_of is_working exception_on usually_works is_region_holiday works_on any span keep
listed = rw (
  weekday_is 19723 (omega arith),
  weekday_is 19724 (omega arith),
  weekday_is 19725 (omega arith),
  weekday_is 19726 (omega arith),
  weekday_is 19727 (omega arith),
  weekday_is 19728 (omega arith),
  weekday_is 19729 (omega arith),
)

-- it starts a working day before the baseline and finishes two before it; the parent has no line
pub variances_late : variances late ≡ None ∷ Some (record { start = pos 1; finish = pos 2; duration = negsuc 119; cost = pos 100 }) ∷ []
unfolding
    variances variance_of last_line last_among variance_from working_between working_up_to cost_of roll_up brought walk_up walk steps own_cost by_day assignments_of
    expenses_of parents calendar_of is_working exception_on usually_works is_region_holiday works_on any span keep flat_map saturated_sum saturated
variances_late = rw (
  weekday_is 19723 (omega arith),
  weekday_is 19726 (omega arith),
  weekday_is 19727 (omega arith),
  weekday_is 19728 (omega arith),
)
