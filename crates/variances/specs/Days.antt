-- Rows of the lines of the baseline, five numbers for each activity, with working days instead of dates: from the early dates to those of the line.
use Rattle.std.specs.Prelude.{ℕ, zero, suc, ◌+◌, ◌-◌, ◌*◌, ◌/◌, ◌≤◌, ◌<◌, min, max, ◌≡◌, Bool, true, cond, ◌&&◌, List, [], ◌∷◌, eqb, ltb, ℤ, pos, ◌-ℤ◌, length, get_or}
use Rattle.std.proofs.lemmas.List.Edits.{sets}
use Rattle.format.specs.InRange.{IsDate}
use Rattle.format.specs.Book.{Calendar}
use Rattle.money.specs.Words.{bits}
use Rattle.model.specs.Lookup.{no_calendar}
use Rattle.model.specs.Variances.{working_between}
use Rattle.calendar.specs.Tables.{entry}
use Rattle.spans.specs.declared.Stretch.{Stretch}
use Rattle.activities.specs.Schedule.{entry_at}
use Rattle.variances.specs.Changed.{row_of, changed}

-- ---- rows

-- of an activity that the baseline has a line of
abbrev pub has_line : List ℕ → Bool
has_line row = ltb 0 (get_or row 0 0)

-- and whose calendar is the one of this number
abbrev pub is_under : List ℕ → ℕ → ℕ → List ℕ → Bool
is_under schedule number i row = has_line row && eqb (entry_at schedule i 1) number

-- the row of activity i with days, as `between` counts them from one date to another
abbrev pub dated : (ℕ → ℕ → ℤ) → List ℕ → ℕ → List ℕ → List ℕ
dated between schedule i row = sets row 1 (bits (between (entry_at schedule i 2) (get_or row 1 0)) ∷ bits (between (entry_at schedule i 3) (get_or row 2 0)) ∷ [])

-- if its calendar is the one of this number
abbrev pub dated_under : (ℕ → ℕ → ℤ) → List ℕ → ℕ → ℕ → List ℕ → List ℕ
dated_under between schedule number i row = cond (is_under schedule number i row) (dated between schedule i row) row

-- by its calendar, one of these
abbrev pub dated_by : List Calendar → List ℕ → ℕ → List ℕ → List ℕ
dated_by cs schedule i row = cond (has_line row) (dated (working_between (get_or cs (entry_at schedule i 1) no_calendar)) schedule i row) row

-- ---- tables

-- five numbers for each activity, and thirteen in the schedule
pub record Tables (schedule out : List ℕ) : Type 0 where
  pub rows : length out ≡ length out / 5 * 5
  pub scheduled : length schedule ≡ length out / 5 * 13

-- all rows of a table
abbrev pub all_rows : (ℕ → List ℕ → List ℕ) → List ℕ → List ℕ
all_rows f table = changed 5 f (length table / 5) table

-- ---- the stretch of dates that is counted

pub record InStretch (r : Stretch) (date : ℕ) : Type 0 where
  pub since : r.from ≤ date
  pub up_to : date ≤ r.to

-- it has the four dates of activity i
pub record Reaches (r : Stretch) (schedule : List ℕ) (i : ℕ) (row : List ℕ) : Type 0 where
  pub early_start : InStretch r (entry_at schedule i 2)
  pub early_finish : InStretch r (entry_at schedule i 3)
  pub start : InStretch r (get_or row 1 0)
  pub finish : InStretch r (get_or row 2 0)

-- of the book's dates
pub record Bounded (r : Stretch) : Type 0 where
  pub least : 10957 ≤ r.from
  pub latest : r.from ≤ 47482
  pub most : r.to ≤ 47481

-- a stretch with one date more; 0 is none
abbrev pub widened : Stretch → ℕ → Stretch
widened known zero = known
widened known (suc d) = record { from = min known.from (suc d); to = max known.to (suc d) }

-- dates of n rows of a width, one in each; 0 for none
abbrev pub AreDates : List ℕ → ℕ → ℕ → ℕ → Type 0
AreDates table n width at = (i : ℕ) → i < n → 0 < get_or table (i * width + at) 0 → IsDate (get_or table (i * width + at) 0)

-- a stretch with them and all of another
pub record Takes (known : Stretch) (table : List ℕ) (n width at : ℕ) (r : Stretch) : Type 0 where
  pub bounded : Bounded r
  pub from : r.from ≤ known.from
  pub to : known.to ≤ r.to
  pub dates : (i : ℕ) → i < n → 0 < get_or table (i * width + at) 0 → InStretch r (get_or table (i * width + at) 0)

-- the early dates and those of the lines, which an activity that has a line has both of
pub record Dated (schedule out : List ℕ) : Type 0 where
  pub early_starts : (i : ℕ) → i < length out / 5 → IsDate (entry_at schedule i 2)
  pub early_finishes : (i : ℕ) → i < length out / 5 → IsDate (entry_at schedule i 3)
  pub starts : AreDates out (length out / 5) 5 1
  pub finishes : AreDates out (length out / 5) 5 2
  pub lined : (i : ℕ) → i < length out / 5 → has_line (row_of 5 out i) ≡ true → (0 < get_or out (i * 5 + 1) 0) × (0 < get_or out (i * 5 + 2) 0)

-- ---- working days by a table of running counts

-- the table has a date's count
pub record HasCount (base : ℕ) (counts : List ℕ) (date : ℕ) : Type 0 where
  pub since : base ≤ date
  pub inside : date - base < length counts
  pub small : entry base counts date ≤ 47482

-- and that of each date of a stretch
pub record Counted (r : Stretch) (counts : List ℕ) : Type 0 where
  pub room : r.to + 1 - r.from < length counts
  pub small : (date : ℕ) → r.from ≤ date → date ≤ r.to → entry r.from counts date ≤ 47482

abbrev pub counted_between : ℕ → List ℕ → ℕ → ℕ → ℤ
counted_between base counts from to = pos (entry base counts to) -ℤ pos (entry base counts from)

-- tables of days and of counts have room for a stretch
pub record Room (r : Stretch) (days counts : List ℕ) : Type 0 where
  pub days_room : r.to + 1 - r.from ≤ length days
  pub counts_room : r.to + 1 - r.from < length counts
