-- The walk over a leaf's days: on one pass over the dates from its start to its finish, the two counts that planned value needs, and how many dates are tested.
use Rattle.std.specs.Prelude.{ℕ, List, leb, length, None, Option, Some}
use Rattle.format.specs.Book.{Activity, BaselineLine, Book}
use Rattle.lists.specs.Lists.{keep}
use Rattle.model.specs.declared.DayWalk.{DayWalk}
use Rattle.model.specs.Lookup.{activity_at}
use Rattle.model.specs.Days.{dates_between}
use Rattle.model.specs.Planned.{line_of, listed_days}

-- how many of the days are up to the date
abbrev pub count_up_to : ℕ → List ℕ → ℕ
count_up_to date days = length (keep (λ d. leb d date) days)

-- how many dates there are from start to finish, both included; none if the finish is earlier: of the line of the baseline, else of the early dates
abbrev pub dates_by : Activity → Option BaselineLine → ℕ
dates_by a None = length (dates_between a.early_start a.early_finish)
dates_by a (Some line) = length (dates_between line.start line.finish)

-- of listed days at a date: how many there are, how many are up to the date, and how many dates were tested for them
abbrev pub counts_of : ℕ → List ℕ → ℕ → DayWalk
counts_of date days tested = record { listed = length days; up_to = count_up_to date days; tested = tested }

-- document 02's walk over the days of activity i: the dates tested are all of its span, whatever the date
unfoldable pub walk_of : Book → ℕ → ℕ → DayWalk
walk_of book date i = counts_of date (listed_days book i) (dates_by (activity_at book i) (line_of book i))
