-- Document 01, Dates: dates with a signed year, and days by their number from 1 January 1970. The calendar is that of `gregorian`.
-- Assumes nothing.
use Rattle.std.specs.Prelude.{ℕ, suc, Bool, cond, ◌&&◌, ltb, ℤ, pos, negsuc, nat_abs, ◌+ℤ◌, Option, Some, None}
use Rattle.gregorian.specs.declared.Civil.{Civil}
use Rattle.gregorian.specs.Count.{between, counted, signed}
use Rattle.gregorian.specs.Calendar.{month_length, is_date, day_number, civil, weekday_number}
use Rattle.dates.specs.declared.YearMonthDay.{YearMonthDay}
use Rattle.dates.specs.declared.week.Weekday.{Weekday}
use Rattle.dates.specs.Week.{named}

-- ---- years

-- Document 01: years -9999 to 9999; others get none.
unfoldable pub is_year : ℤ → Bool
is_year y = between (negsuc 9998) (pos 9999) y

-- The year counted from year -10000, as the calendar counts, and back.
abbrev pub year_count : ℤ → ℕ
year_count y = counted 10000 y

abbrev pub signed_year : ℕ → ℤ
signed_year n = signed 10000 n

-- ---- days

-- 1 January 1970.
unfoldable pub epoch : ℕ
epoch = day_number (year_count (pos 1970)) 1 1

-- The day's number counted from 1 January of year -10000, and back.
abbrev pub day_count : ℤ → ℕ
day_count z = counted epoch z

abbrev pub signed_day : ℕ → ℤ
signed_day n = signed epoch n

-- From 1 January of year -9999 to 31 December 9999.
unfoldable pub is_day : ℤ → Bool
is_day z = between (signed_day (day_number (year_count (negsuc 9998)) 1 1)) (signed_day (day_number (year_count (pos 9999)) 12 31)) z

-- ---- what the functions answer

unfoldable pub from_ymd : ℤ → ℕ → ℕ → Option ℤ
from_ymd y m d = cond (is_year y && is_date (year_count y) m d) (Some (signed_day (day_number (year_count y) m d))) None

unfoldable pub from_days : ℤ → Option ℤ
from_days z = cond (is_day z) (Some z) None

abbrev pub dated : ℤ → ℕ → ℕ → YearMonthDay
dated y m d = record { year = y; month = m; day = d }

-- A date of the calendar, with its year signed.
abbrev pub date_of : Civil → YearMonthDay
date_of x = dated (signed_year x.year) x.month x.day

unfoldable pub ymd_of : ℤ → Option YearMonthDay
ymd_of z = cond (is_day z) (Some (date_of (civil (day_count z)))) None

unfoldable pub weekday_of : ℤ → Option Weekday
weekday_of z = cond (is_day z) (Some (named (weekday_number (day_count z)))) None

-- The date after, by the calendar's rule on signed years: what the law of the next day says.
unfoldable pub date_after : Option YearMonthDay → Option YearMonthDay
date_after None = None
date_after (Some x) =
    Some (cond (ltb x.day (month_length (nat_abs x.year) x.month)) (dated x.year x.month (suc x.day)) (cond (ltb x.month 12) (dated x.year (suc x.month) 1) (dated (x.year +ℤ pos 1) 1 1)))
