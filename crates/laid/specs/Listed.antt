-- The days that a table of working dates lists for a span. The table is row after row, a calendar to a row: 1 where the date works.
use Rattle.std.specs.Prelude.{ℕ, ◌+◌, ◌-◌, ◌≤◌, ◌<◌, ◌≡◌, Bool, List, eqb, length, get_or}
use Rattle.lists.specs.Lists.{keep}
use Rattle.model.specs.Days.{dates_between, or_alone}
use Rattle.laid.specs.declared.days.Span.{Span}
use Rattle.laid.specs.declared.days.Tested.{Tested}

-- whether a date works, by the row that begins at entry `row` with the date `base`
abbrev pub in_row : ℕ → ℕ → List ℕ → ℕ → Bool
in_row row base days date = eqb (get_or days (row + (date - base)) 0) 1

-- the working dates of a span
abbrev pub worked_between : ℕ → ℕ → List ℕ → ℕ → ℕ → List ℕ
worked_between row base days first last = keep (in_row row base days) (dates_between first last)

-- how many dates it has, and how many of them work
abbrev pub tested_between : ℕ → ℕ → List ℕ → ℕ → ℕ → Tested
tested_between row base days first last = record { tested = length (dates_between first last); working = length (worked_between row base days first last) }

-- its working dates, or the first date alone
abbrev pub listed_between : ℕ → ℕ → List ℕ → ℕ → ℕ → List ℕ
listed_between row base days first last = or_alone first (worked_between row base days first last)

-- the row has each date of a span
pub record Covers (row base : ℕ) (days : List ℕ) (first last : ℕ) : Type 0 where
  pub start : base ≤ first
  pub reach : row + last < base + length days
  pub latest : last ≤ 47481

-- ---- as a struct

-- its dates between two that work
abbrev pub worked_in : List ℕ → Span → ℕ → ℕ → List ℕ
worked_in days span first last = worked_between span.row span.base days first last

-- the days that are listed for it
abbrev pub listed_in : List ℕ → Span → List ℕ
listed_in days span = or_alone span.first (worked_in days span span.first span.last)

-- the table has its dates, and as many of them work as it says
pub record IsSpan (days : List ℕ) (span : Span) : Type 0 where
  pub covers : Covers span.row span.base days span.first span.last
  pub counted : span.working ≡ length (worked_in days span span.first span.last)

abbrev pub span_of : List ℕ → ℕ → ℕ → ℕ → ℕ → Span
span_of days row base first last =
    record { row = row; base = base; first = first; last = last; working = length (worked_between row base days first last) }
