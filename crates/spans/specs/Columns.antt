-- The numbers of an activity: its parent, its calendar, the spans of its days.
use Rattle.std.specs.Prelude.{ℕ, zero, suc, min, max, cond, List, [], Option, unwrap_or}
use Rattle.format.specs.declared.Status.{Status}
use Rattle.format.specs.declared.Status.TheVariants.{NotStarted, InProgress, Completed}
use Rattle.format.specs.Book.{Calendar, Activity}
use Rattle.sections.specs.Sections.{mark_of}
use Rattle.model.specs.declared.Way.{Way}
use Rattle.model.specs.declared.Way.TheVariants.{Planned, Actual, Remaining}
use Rattle.model.specs.Days.{day_list, is_started, actual_to}
use Rattle.std.specs.Option.{option_or}

-- the parent's index; 500, which is no index, for none
unfoldable pub parent_number : Activity → ℕ
parent_number a = mark_of a.parent

-- the calendar's index; none is calendar 0, the project's
unfoldable pub calendar_number : Activity → ℕ
calendar_number a = unwrap_or a.calendar 0

-- ---- the span of an activity's days, three ways; its first date is 0 where there are none

-- from the actual start, else from the actual finish; none where unstarted
abbrev pub actual_from : Activity → ℕ
actual_from a = cond (is_started a.status) (unwrap_or (option_or a.actual_start a.actual_finish) 0) 0

-- where unstarted the early start; where in progress the data date, but not before the early start nor after the early finish
abbrev pub remaining_since : Status → Option ℕ → ℕ → ℕ → ℕ
remaining_since NotStarted date start finish = start
remaining_since InProgress date start finish = min (max (unwrap_or date start) start) finish
remaining_since Completed date start finish = 0

-- the first date, under a data date
unfoldable pub first_date : Option ℕ → Way → Activity → ℕ
first_date date Planned a = a.early_start
first_date date Actual a = actual_from a
first_date date Remaining a = remaining_since a.status date a.early_start a.early_finish

-- and the last
unfoldable pub last_date : Option ℕ → Way → Activity → ℕ
last_date date Planned a = a.early_finish
last_date date Actual a = actual_to a.actual_finish date (actual_from a)
last_date date Remaining a = a.early_finish

-- the day list of a span
unfoldable pub days_in : Calendar → ℕ → ℕ → List ℕ
days_in c zero last = []
days_in c (suc d) last = day_list c (suc d) last
