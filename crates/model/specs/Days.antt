-- Day lists, and an activity's days: planned, actual and remaining.
use Rattle.std.specs.Prelude.{ℕ, ◌+◌, ◌-◌, min, max, Bool, true, false, cond, List, [], ◌∷◌, None, Option, Some, unwrap_or}
use Rattle.format.specs.declared.Status.{Status}
use Rattle.format.specs.declared.Status.TheVariants.{NotStarted, InProgress, Completed}
use Rattle.format.specs.Book.{Calendar, Activity, Book}
use Rattle.model.specs.declared.Way.{Way}
use Rattle.model.specs.declared.Way.TheVariants.{Planned, Actual, Remaining}
use Rattle.lists.specs.Lists.{span, keep}
use Rattle.model.specs.Lookup.{activity_at}
use Rattle.model.specs.Calendar.{is_working, calendar_of}
use Rattle.std.specs.Option.{option_or}

-- ---- of a calendar

-- the dates from one to another, both included; none if the second is earlier
unfoldable pub dates_between : ℕ → ℕ → List ℕ
dates_between from to = span from (to + 1 - from)

-- document 01's `working_days`: those of them that work, rising
unfoldable pub working_days : Calendar → ℕ → ℕ → List ℕ
working_days c from to = keep (is_working c) (dates_between from to)

abbrev pub or_alone : ℕ → List ℕ → List ℕ
or_alone from [] = from ∷ []
or_alone from (d ∷ ds) = d ∷ ds

-- document 01's day list: an empty list becomes the first date alone
unfoldable pub day_list : Calendar → ℕ → ℕ → List ℕ
day_list c from to = or_alone from (working_days c from to)

-- ---- of an activity

-- from the early start to the early finish
unfoldable pub planned_days : Book → Activity → List ℕ
planned_days book a = day_list (calendar_of book a) a.early_start a.early_finish

abbrev pub is_started : Status → Bool
is_started NotStarted = false
is_started InProgress = true
is_started Completed = true

-- the actual finish, else the day before the data date, else the first of the days
abbrev pub actual_to : Option ℕ → Option ℕ → ℕ → ℕ
actual_to None None from = from
actual_to None (Some data_date) from = data_date - 1
actual_to (Some finish) data_date from = finish

unfoldable pub days_since : Book → Activity → Option ℕ → List ℕ
days_since book a None = []
days_since book a (Some from) = day_list (calendar_of book a) from (actual_to a.actual_finish book.data_date from)

-- from the actual start, else from the actual finish; none without either, and none where unstarted
unfoldable pub actual_days : Book → Activity → List ℕ
actual_days book a = cond (is_started a.status) (days_since book a (option_or a.actual_start a.actual_finish)) []

-- from the data date, but not before the early start nor after the early finish
unfoldable pub remaining_from : Book → Activity → ℕ
remaining_from book a = min (max (unwrap_or book.data_date a.early_start) a.early_start) a.early_finish

-- where unstarted, the planned days
unfoldable pub days_left : Book → Activity → Status → List ℕ
days_left book a NotStarted = planned_days book a
days_left book a InProgress = day_list (calendar_of book a) (remaining_from book a) a.early_finish
days_left book a Completed = []

unfoldable pub remaining_days : Book → Activity → List ℕ
remaining_days book a = days_left book a a.status

-- `days_of`: the days of activity i, three ways
unfoldable pub days_of : Book → Way → ℕ → List ℕ
days_of book Planned i = planned_days book (activity_at book i)
days_of book Actual i = actual_days book (activity_at book i)
days_of book Remaining i = remaining_days book (activity_at book i)
