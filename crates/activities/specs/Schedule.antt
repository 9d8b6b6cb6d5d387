-- The schedule: of each activity thirteen numbers, row after row, as every loop over the activities reads them.
use Rattle.std.specs.Prelude.{ℕ, zero, suc, ◌+◌, ◌*◌, ℤ, get_or, None, Option, Some}
use mathlib.Core.List.{List, [], ◌∷◌, flat_map}
use Rattle.format.specs.Enumeration.{status_number}
use Rattle.format.specs.Book.{Activity, Book}
use Rattle.money.specs.Words.{bits, of_bits}
use Rattle.model.specs.declared.Way.{Way}
use Rattle.model.specs.declared.Way.TheVariants.{Planned, Actual, Remaining}
use Rattle.spans.specs.Columns.{parent_number, calendar_number, first_date, last_date}

-- ---- a percentage that may be absent: 0 and 0, or 1 and its bits

abbrev pub percent_given : Option ℤ → ℕ
percent_given None = 0
percent_given (Some z) = 1

abbrev pub percent_bits : Option ℤ → ℕ
percent_bits None = 0
percent_bits (Some z) = bits z

abbrev pub percent_of : ℕ → ℕ → Option ℤ
percent_of zero u = None
percent_of (suc k) u = Some (of_bits u)

-- ---- the numbers of an activity, under a data date

unfoldable pub schedule_row : Option ℕ → Activity → List ℕ
schedule_row date a =
    parent_number a
    ∷ calendar_number a
    ∷ first_date date Planned a
    ∷ last_date date Planned a
    ∷ first_date date Actual a
    ∷ last_date date Actual a
    ∷ first_date date Remaining a
    ∷ last_date date Remaining a
    ∷ status_number a.status
    ∷ a.working_minutes
    ∷ a.remaining_minutes
    ∷ percent_given a.percent
    ∷ percent_bits a.percent
    ∷ []

unfoldable pub schedule_of : Book → List ℕ
schedule_of book = flat_map (schedule_row book.data_date) book.activities

-- ---- its places

-- number k of activity i
abbrev pub entry_at : List ℕ → ℕ → ℕ → ℕ
entry_at schedule i k = get_or schedule (i * 13 + k) 0

abbrev pub calendar_in : List ℕ → ℕ → ℕ
calendar_in schedule i = entry_at schedule i 1

-- the first and the last date of the days, by way
abbrev pub first_place : Way → ℕ
first_place Planned = 2
first_place Actual = 4
first_place Remaining = 6

abbrev pub last_place : Way → ℕ
last_place Planned = 3
last_place Actual = 5
last_place Remaining = 7

abbrev pub first_in : List ℕ → Way → ℕ → ℕ
first_in schedule way i = entry_at schedule i (first_place way)

abbrev pub last_in : List ℕ → Way → ℕ → ℕ
last_in schedule way i = entry_at schedule i (last_place way)
