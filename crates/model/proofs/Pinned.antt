-- What no other case fixes: each of these figures on a small book, by computation.
use Rattle.std.specs.Prelude.{Some, None, Option}
use mathlib.Core.Path.{◌≡◌, refl}
use mathlib.Core.Bool.{Bool, true, false}
use mathlib.Core.List.{List, [], ◌∷◌, map, flat_map, zip_with}
use Prim.Native.Nat.{ℕ}
use native.Mathlib.Omega.{arith}
use lib.Ieee.{fin, of_int, mul, div, lt}
use lib.IntN.{pos, negsuc}
use Rattle.integer.specs.Folds.{saturated}
use Rattle.money.specs.declared.costs.Cost.{Cost}
use Rattle.money.specs.Scale.{in_range, scaled_by}
use Rattle.money.specs.Shares.{share_of, shares_from}
use Rattle.floats.specs.Rounding.{whole_of}
use Rattle.gregorian.specs.Count.{between, counted, signed}
use Rattle.gregorian.specs.Calendar.{is_leap, leap_day, month_length, days_to_month, is_date, day_number}
use Rattle.gregorian.proofs.Leap.{is_closed}
use Rattle.dates.specs.Date.{dated, is_year, from_ymd, ymd_of}
use Rattle.dates.proofs.Counts.{epoch_is}
use Rattle.dates.proofs.Laws.{date_of_day, ymd_of_lem}
use Rattle.holidays.specs.Holiday.{is_fixed, is_holiday_on, is_holiday}
use Rattle.format.specs.declared.Status.TheVariants.{InProgress}
use Rattle.format.specs.declared.EvTechnique.TheVariants.{Units}
use Rattle.format.specs.declared.EtcTechnique.TheVariants as etc
use Rattle.format.specs.declared.ResourceKind.TheVariants.{Labor}
use Rattle.format.specs.declared.ChangeStatus.TheVariants.{Pending, Approved, NotApproved}
use Rattle.format.specs.Enumeration.{change_status_number}
use Rattle.format.specs.declared.Region.{Region}
use Rattle.format.specs.declared.Region.TheVariants as regions
use Rattle.format.specs.Book.{Calendar, Activity, PeriodRecord, Book}
use Rattle.format.specs.Format.{names}
use Rattle.lists.specs.Lists.{any, span, keep}
use Rattle.model.specs.declared.Earned.{Earned}
use Rattle.model.specs.declared.Indices.{Indices}
use Rattle.model.specs.Calendar.{is_working, exception_on, usually_works, is_region_holiday, works_on, calendar_of}
use Rattle.model.specs.Days.{day_list, planned_days, days_since, actual_days, remaining_from, days_left, remaining_days, days_of}
use Rattle.model.specs.Amounts.{spread_over, saturated_sum}
use Rattle.model.specs.Tree.{parents, is_leaf, leaves, steps, walk, steps_made, walk_up, brought, roll_up}
use Rattle.model.specs.Costs.{price_among, price_on, priced, assignment_amounts, assignments_of, expenses_of, by_day, own_cost, cost_of, project_cost}
use Rattle.model.specs.Planned.{first_line, line_of, budget_of, days_by, listed_days, planned_amounts, planned_on}
use Rattle.model.specs.Earned.{units_done, units_in_all, performance, leaf_earned, own_earned, earned_at, project_earned}
use Rattle.model.specs.Forecast.{cpi, spi, to_earn, tcpi, indices_of}
use Rattle.model.specs.Variances.{working_up_to, working_between, last_among, last_line, variance_from, variance_of}
use Rattle.model.specs.Budgets.{budget_for, changes, current_of, proposed_of, has_line, line_accounts, distributed_of, line_for, depth_of, budget_lines, funded, not_covered}
use Rattle.model.specs.Periods.{actual_in, is_stored, records_to_date, to_date, period_point, period_points}
use Rattle.model.specs.Months.{month_start}
use Rattle.model.proofs.Calendar.{weekday_is}
use Rattle.model.proofs.Days.{day_list_one}

-- ---- Christmas 2024, a Wednesday: day 20,082

christmas_day : from_ymd (pos 2024) 12 25 ≡ Some (pos 20082)
unfolding from_ymd is_year between counted signed is_date day_number days_to_month month_length leap_day is_leap
christmas_day = rw (is_closed 12024, epoch_is)

christmas : ymd_of (pos 20082) ≡ Some (dated (pos 2024) 12 25)
christmas = date_of_day (pos 2024) 12 25 (pos 20082) christmas_day

-- its month begins on 1 December
pub month_start_lem : month_start 20082 ≡ 20058
unfolding month_start
month_start_lem = rw (ymd_of_lem (pos 20082) (pos 2024) 12 25 christmas).day

abbrev every_day : Region → Calendar
every_day region = record { week = 127; region = region; holidays = []; extra_days = []; exceptions = [] }

-- it is a holiday: it rests in Brazil, and works without a region
pub christmas_rests : is_holiday (pos 20082) ∷ is_working (every_day regions.Brazil) 20082 ∷ is_working (every_day regions.None) 20082 ∷ [] ≡ true ∷ false ∷ true ∷ []
unfolding is_working exception_on usually_works is_region_holiday is_holiday is_holiday_on is_fixed works_on any
christmas_rests = rw (christmas, weekday_is 20082 (omega arith))

-- ---- an activity's own calendar, else the project's; no other

pub own_calendar : (first second : Calendar) (book : Book) → book.calendars ≡ first ∷ second ∷ [] → (a : Activity)
    → (a.calendar ≡ Some 1 → calendar_of book a ≡ second) × (a.calendar ≡ None → calendar_of book a ≡ first)
unfolding calendar_of
own_calendar first second book listed a = (λ e. rw (e, listed), λ e. rw (e, listed))

-- ---- of a budget of 100 with 20 earned, 80 are to be earned with the 40 that are not spent

pub to_complete : tcpi (record { budget = pos 100; planned = pos 50; earned = pos 20; actual = pos 60; remaining = pos 0 }) ≡ Some (fin false 1 (pos 1))
unfolding tcpi to_earn of_int div
to_complete = refl

-- the three indices together: 30 of 90 earned where 120 were planned and 60 spent
abbrev row : ℕ → ℕ → ℕ → ℕ → Earned
row budget planned earned actual = record { budget = pos budget; planned = pos planned; earned = pos earned; actual = pos actual; remaining = pos 0 }

pub three_indices : indices_of (row 90 120 30 60)
    ≡ record {
      cpi = fin false 1 (negsuc 0);
      has_cpi = true;
      spi = fin false 1 (negsuc 1);
      has_spi = true;
      tcpi = fin false 1 (pos 1);
      has_tcpi = true;
    }
unfolding indices_of cpi spi tcpi to_earn of_int div
three_indices = refl

-- one of them is absent: nothing spent, nothing planned, all spent
abbrev present : Indices → List Bool
present x = x.has_cpi ∷ x.has_spi ∷ x.has_tcpi ∷ []

pub absent_indices : map (λ (e : Earned). present (indices_of e)) (row 90 120 30 0 ∷ row 90 0 30 60 ∷ row 90 120 30 90 ∷ [])
    ≡ (false ∷ true ∷ true ∷ []) ∷ (true ∷ false ∷ true ∷ []) ∷ (true ∷ true ∷ false ∷ []) ∷ []
unfolding indices_of cpi spi tcpi to_earn
absent_indices = refl

-- ---- a parent and its leaf, which is under way, on one day

abbrev activity : Option ℕ → Activity
activity parent =
    record {
      parent = parent;
      calendar = None;
      status = InProgress;
      early_start = 20000;
      early_finish = 20000;
      actual_start = Some 20000;
      actual_finish = Some 20000;
      working_minutes = 600;
      remaining_minutes = 0;
      percent = None;
    }

-- each figure with a digit of its own
abbrev stored : ℕ → PeriodRecord
stored activity =
    record { period = 0; activity = activity; earned = pos 9; labor = pos 1; nonlabor = pos 20; material = pos 300; expense = pos 4000 }

module _ (calendar : Calendar) where
  -- 7 units planned, 2 done, 3 remain, at 1.00; the baseline has 480 minutes and 100; a budget of 50 is planned as 20 and 10, and has a change of each status;
  -- approved changes of the parent and the leaf
  abbrev book : Book
  book =
      record {
        data_date = None;
        technique = Units;
        forecast = etc.Remaining;
        calendars = calendar ∷ [];
        activities = activity None ∷ activity (Some 0) ∷ [];
        resources = record { kind = Labor; prices = record { from = None; per_unit = pos 100 } ∷ [] } ∷ [];
        assignments = record { activity = 1; resource = Some 0; planned = pos 7; actual = pos 2; remaining = pos 3 } ∷ [];
        expenses = [];
        baseline = Some (record { activity = 1; start = 20000; finish = 20000; minutes = 480; cost = pos 100 } ∷ []);
        budgets = record { activity = None; original = pos 50; plan = pos 20 ∷ pos 10 ∷ [] } ∷ record { activity = Some 1; original = pos 8; plan = [] } ∷ [];
        log =
            record { activity = None; amount = pos 3; status = Approved }
            ∷ record { activity = None; amount = pos 400; status = Pending }
            ∷ record { activity = None; amount = pos 5000; status = NotApproved }
            ∷ record { activity = Some 0; amount = pos 60000; status = Approved }
            ∷ record { activity = Some 1; amount = pos 700000; status = Approved }
            ∷ [];
        funds = pos 60 ∷ [];
        periods = 20000 ∷ [];
        records = stored 0 ∷ stored 1 ∷ [];
      }

  one : day_list calendar 20000 20000 ≡ 20000 ∷ []
  one = day_list_one calendar 20000 20000 (omega arith)

  abbrev cost : Cost
  cost = record { budget = pos 7; actual = pos 2; remaining = pos 3 }

  -- what remains is priced by the units that remain; the parent's cost is the leaf's
  pub both_costs : (cost_of book 0 ≡ cost) × (cost_of book 1 ≡ cost)
  unfolding
      cost_of roll_up brought walk_up walk steps own_cost by_day assignments_of expenses_of assignment_amounts priced price_on price_among spread_over days_of planned_days
      actual_days days_since remaining_days days_left remaining_from calendar_of saturated_sum parents span keep flat_map zip_with share_of shares_from
      scaled_by in_range saturated
  both_costs = (rw one, rw one)

  -- 120 minutes longer than the baseline, and 95 cheaper
  pub leaf_variance : variance_of book 1 ≡ Some (record { start = pos 0; finish = pos 0; duration = negsuc 119; cost = pos 95 })
  unfolding variance_of last_line last_among variance_from working_between working_up_to span keep
  leaf_variance = rw both_costs.1

  -- the project's line, where 30 of the 50 are planned, the parent's and the leaf's; for each the leaf's 7 are scheduled
  pub lines : budget_lines book
      ≡ record { activity = None; depth = 0; original = pos 50; current = pos 53; proposed = pos 453; distributed = pos 60000; planned = pos 30; scheduled = pos 7 }
      ∷ record { activity = Some 0; depth = 1; original = pos 0; current = pos 60000; proposed = pos 60000; distributed = pos 700008; planned = pos 0; scheduled = pos 7 }
      ∷ record { activity = Some 1; depth = 2; original = pos 8; current = pos 700008; proposed = pos 700008; distributed = pos 0; planned = pos 0; scheduled = pos 7 }
      ∷ []
  unfolding
      budget_lines line_for depth_of steps_made walk steps project_cost leaves is_leaf budget_for current_of proposed_of changes change_status_number distributed_of
      line_accounts has_line names parents any span keep saturated
  lines = rw (both_costs.0, both_costs.1)

  -- the funds cover the project's current budget, and 7 more
  pub covered : not_covered book ≡ negsuc 6
  unfolding not_covered funded current_of budget_for changes change_status_number names keep saturated
  covered = refl

  -- the units done of those done and remaining are 40 %
  abbrev earned : Earned
  earned = record { budget = pos 100; planned = pos 100; earned = pos 40; actual = pos 2; remaining = pos 3 }

  pub project_earned_lem : project_earned book 20000 ≡ earned
  unfolding
      project_earned earned_at leaves is_leaf roll_up brought walk_up walk steps parents any span keep flat_map own_earned leaf_earned budget_of line_of first_line planned_on
      planned_amounts listed_days days_by calendar_of spread_over zip_with share_of shares_from saturated_sum saturated performance units_done units_in_all assignments_of
      whole_of of_int mul div lt
  project_earned_lem = rw (both_costs.1, one)

  -- the period has the project's planned value, and of the records the leaf's alone, all four kinds of it
  pub period : period_points book ≡ record { period = 0; finish = 20000; planned = pos 100; earned = Some (pos 9); actual = Some (pos 4321) } ∷ []
  unfolding period_points period_point to_date is_stored records_to_date actual_in parents is_leaf any span keep saturated
  period = rw project_earned_lem
