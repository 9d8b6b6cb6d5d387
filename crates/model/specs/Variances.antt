-- The schedule against the baseline: each activity's variances, the baseline's less the schedule's, so that late and dear are below zero.
use Rattle.std.specs.Prelude.{ℕ, ◌-◌, cond, List, [], ◌∷◌, map, eqb, ℤ, pos, ◌-ℤ◌, length, None, Option, Some, unwrap_or}
use Rattle.format.specs.Book.{Calendar, BaselineLine, Book}
use Rattle.money.specs.Costs.{completion_of}
use Rattle.lists.specs.Lists.{span, keep}
use Rattle.model.specs.Lookup.{activity_at}
use Rattle.model.specs.Calendar.{is_working, calendar_of}
use Rattle.model.specs.Tree.{parents, indices}
use Rattle.model.specs.Costs.{cost_of}
use Rattle.model.specs.Forecast.{less}
use Rattle.std.specs.Option.{option_or}

-- start and finish in working days, duration in working minutes, cost in hundredths
pub record Variance : Type 0 where
  pub start : ℤ
  pub finish : ℤ
  pub duration : ℤ
  pub cost : ℤ

-- how many dates work, from one up to another, which is not included
unfoldable pub working_up_to : Calendar → ℕ → ℕ → ℕ
working_up_to c from to = length (keep (is_working c) (span from (to - from)))

-- the working days from one date to another, below zero where the other is earlier
unfoldable pub working_between : Calendar → ℕ → ℕ → ℤ
working_between c from to = pos (working_up_to c from to) -ℤ pos (working_up_to c to from)

-- the last line that names activity i
unfoldable pub last_among : List BaselineLine → ℕ → Option BaselineLine
last_among [] i = None
last_among (l ∷ ls) i = option_or (last_among ls i) (cond (eqb l.activity i) (Some l) None)

-- document 01's line that counts here: the last of an activity
unfoldable pub last_line : Book → ℕ → Option BaselineLine
last_line book i = last_among (unwrap_or book.baseline []) i

unfoldable pub variance_from : Book → ℕ → BaselineLine → Variance
variance_from book i line = record {
  start = working_between (calendar_of book (activity_at book i)) (activity_at book i).early_start line.start;
  finish = working_between (calendar_of book (activity_at book i)) (activity_at book i).early_finish line.finish;
  duration = pos line.minutes -ℤ pos (activity_at book i).working_minutes;
  cost = less line.cost (completion_of (cost_of book i));
}

abbrev pub variance_by : Book → ℕ → Option BaselineLine → Option Variance
variance_by book i None = None
variance_by book i (Some line) = Some (variance_from book i line)

-- none for an activity that the baseline has no line of
unfoldable pub variance_of : Book → ℕ → Option Variance
variance_of book i = variance_by book i (last_line book i)

-- the variances of baseline.rs
unfoldable pub variances : Book → List (Option Variance)
variances book = map (variance_of book) (indices (parents book))
