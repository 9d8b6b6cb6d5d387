-- The walk over an activity's days on small books, by computation. Then of every book: planned value is what the walk's two counts share out.
use Rattle.std.specs.Prelude.{Some, None, Option}
use Prim.Native.Nat.{ℕ, ◌+◌, ◌-◌, ◌%◌, ◌≤◌}
use mathlib.Core.Path.{◌≡◌, refl, ap, ◌∙◌}
use mathlib.Core.Bool.{true}
use mathlib.Core.List.{List, [], ◌∷◌}
use native.Mathlib.Omega.{arith}
use lib.IntN.{pos}
use lib.ListN.{length}
use Rattle.integer.specs.Sums.{ints, sum}
use Rattle.money.specs.Shares.{share_of}
use Rattle.lists.specs.Lists.{any, span, keep}
use Rattle.lists.proofs.Lists.{keep_all}
use Rattle.lists.proofs.Spans.{span_length, span_in_lem}
use Rattle.format.specs.declared.Status.TheVariants.{NotStarted}
use Rattle.format.specs.declared.EvTechnique.TheVariants.{Physical}
use Rattle.format.specs.declared.EtcTechnique.TheVariants.{Remaining}
use Rattle.format.specs.declared.Region.TheVariants as regions
use Rattle.format.specs.Book.{Calendar, BaselineLine, Book}
use Rattle.format.specs.InRange.{InRange}
use Rattle.dates.specs.declared.week.Weekday.{Weekday}
use Rattle.dates.specs.declared.week.Weekday.TheVariants.{Monday, Tuesday, Wednesday, Thursday, Friday, Saturday, Sunday}
use Rattle.dates.specs.Week.{named}
use Rattle.model.specs.declared.DayWalk.{DayWalk}
use Rattle.model.specs.Calendar.{is_working, exception_on, usually_works, is_region_holiday, works_on, calendar_of}
use Rattle.model.specs.Days.{dates_between, working_days, day_list, planned_days}
use Rattle.model.specs.Planned.{first_line, line_of, budget_of, days_by, listed_days, planned_on}
use Rattle.model.specs.Walk.{walk_of}
use Rattle.model.proofs.Calendar.{weekday_is}
use Rattle.model.proofs.Days.{day_list_one, day_list_counted}
use Rattle.model.proofs.Planned.{leaf_planned, count_working}

-- ---- small books

abbrev pub counts : ℕ → ℕ → ℕ → DayWalk
counts listed up_to tested = record { listed = listed; up_to = up_to; tested = tested }

abbrev week : ℕ → Calendar
week bits = record { week = bits; region = regions.None; holidays = []; extra_days = []; exceptions = [] }

-- one activity, from one date to another
abbrev book_of : List Calendar → Option ℕ → ℕ → ℕ → Option (List BaselineLine) → Book
book_of calendars calendar start finish baseline =
    record {
      data_date = None;
      technique = Physical;
      forecast = Remaining;
      calendars = calendars;
      activities = record {
        parent = None;
        calendar = calendar;
        status = NotStarted;
        early_start = start;
        early_finish = finish;
        actual_start = None;
        actual_finish = None;
        working_minutes = 0;
        remaining_minutes = 0;
        percent = None;
      } ∷ [];
      resources = [];
      assignments = [];
      expenses = [];
      baseline = baseline;
      budgets = [];
      log = [];
      funds = [];
      periods = [];
      records = [];
    }

-- `walk-idle`: no date of the three works, and the first is listed
abbrev idle : Book
idle = book_of (week 0 ∷ []) None 20000 20002 None

-- `walk-baseline`: a Friday to the Tuesday behind it by the first line, one day by the second and by the early dates; Monday to Friday by the activity's own
-- calendar, every day by the project's
abbrev baselined : Book
baselined =
    book_of (week 127 ∷ week 31 ∷ []) (Some 1) 20000 20000
    (Some (record { activity = 0; start = 20000; finish = 20004; minutes = 0; cost = pos 10 } ∷ record { activity = 0; start = 20000; finish = 20000; minutes = 0; cost = pos 10 } ∷ []))

walks_idle : (walk_of idle 20000 0 ≡ counts 1 1 3) × (walk_of idle 19999 0 ≡ counts 1 0 3)
unfolding walk_of listed_days days_by line_of first_line planned_days day_list working_days dates_between calendar_of is_working exception_on usually_works is_region_holiday works_on any span keep
walks_idle = (
  rw (weekday_is 20000 (omega arith), weekday_is 20001 (omega arith), weekday_is 20002 (omega arith)),
  rw (weekday_is 20000 (omega arith), weekday_is 20001 (omega arith), weekday_is 20002 (omega arith)),
)

walks_baselined : (walk_of baselined 20003 0 ≡ counts 3 2 5) × (walk_of baselined 10957 0 ≡ counts 3 0 5)
unfolding walk_of listed_days days_by line_of first_line day_list working_days dates_between calendar_of is_working exception_on usually_works is_region_holiday works_on any span keep
walks_baselined =
    let d0 = weekday_is 20000 (omega arith) in
    let d1 = weekday_is 20001 (omega arith) in
    let d2 = weekday_is 20002 (omega arith) in
    let d3 = weekday_is 20003 (omega arith) in
    let d4 = weekday_is 20004 (omega arith) in
    (rw (d0, d1, d2, d3, d4), rw (d0, d1, d2, d3, d4))

-- `walk-inverted`: the finish is earlier, a day is listed and none tested, under any calendar
walks_inverted : (c : Calendar) → let book = book_of (c ∷ []) None 20000 19990 None in (walk_of book 20000 0 ≡ counts 1 1 0) × (walk_of book 19999 0 ≡ counts 1 0 0)
unfolding walk_of listed_days days_by line_of first_line planned_days calendar_of dates_between span keep
walks_inverted c =
    let alone = day_list_one c 20000 19990 (omega arith) in
    (rw alone, rw alone)

-- `walk_end`: all dates there are, each of which works
every_day_works : (date : ℕ) → date ≤ 47481 → is_working (week 127) date ≡ true
unfolding is_working exception_on usually_works is_region_holiday any works_on
every_day_works date h = rw (weekday_is date (omega arith)) (go (named ((date + 3) % 7)))
  where
    go : (d : Weekday) → works_on 127 (Some d) ≡ true
    go Monday = refl
    go Tuesday = refl
    go Wednesday = refl
    go Thursday = refl
    go Friday = refl
    go Saturday = refl
    go Sunday = refl

working_to : (to : ℕ) → to ≤ 47481 → length (working_days (week 127) 10957 to) ≡ to + 1 - 10957
unfolding working_days dates_between
working_to to h =
    ap length (keep_all (is_working (week 127)) (span 10957 (to + 1 - 10957)) (λ d m. every_day_works d (omega (arith, (span_in_lem 10957 (to + 1 - 10957) d m).1))))
    ∙ span_length 10957 (to + 1 - 10957)

abbrev ended : Book
ended = book_of (week 127 ∷ []) None 10957 47481 None

walks_ended : (walk_of ended 47481 0 ≡ counts 36525 36525 36525) × (walk_of ended 10957 0 ≡ counts 36525 1 36525)
unfolding walk_of listed_days days_by line_of first_line planned_days calendar_of dates_between
walks_ended =
    let all : length (day_list (week 127) 10957 47481) ≡ 36525 = ap length (day_list_counted (week 127) 10957 47481 (omega (arith, working_to 47481 (omega arith)))) ∙ working_to 47481 (omega arith) in
    let every = count_working (week 127) 10957 47481 47481 (omega (arith, working_to 47481 (omega arith))) ∙ working_to 47481 (omega arith) in
    let first = count_working (week 127) 10957 47481 10957 (omega (arith, working_to 47481 (omega arith))) ∙ working_to 10957 (omega arith) in
    (rw (all, every, span_length 10957 36525), rw (all, first, span_length 10957 36525))

-- ---- of every book

module _ (book : Book) (i date : ℕ) where
  -- planned value is what the days up to the date get of the budget, shared over all that are listed
  pub walk_planned : InRange book → planned_on book date i ≡ sum ints (share_of (budget_of book i) (walk_of book date i).listed) (walk_of book date i).up_to
  unfolding walk_of
  walk_planned ok = leaf_planned book i ok date
