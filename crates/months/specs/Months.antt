-- Months by their number. Years are counted from year -10000, as `gregorian` counts them, and months from January of that year.
-- Assumes nothing.
use Rattle.std.specs.Prelude.{ℕ, ◌+◌, ◌-◌, ◌*◌, ◌/◌, ◌%◌, pos}
use Rattle.gregorian.specs.Calendar.{day_number, civil}
use Rattle.dates.specs.Date.{epoch, day_count}

-- the month of a date
unfoldable pub month_number : ℕ → ℕ
month_number date = let x = civil (day_count (pos date)) in x.year * 12 + (x.month - 1)

-- the first day of a month, from 1 January 1970
unfoldable pub first_day : ℕ → ℕ
first_day m = day_number (m / 12) (m % 12 + 1) 1 - epoch

-- January 2000, the first of the 1,200 months that D's range has
abbrev pub january2000 : ℕ
january2000 = 144000
