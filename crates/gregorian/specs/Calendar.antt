-- The proleptic Gregorian calendar, by its own rules. Years are counted from year -10000, and days from 1 January of that year.
-- 10,000 years are 25 times the 400 after which the calendar repeats, so that a year and its count have the same months.
-- Assumes nothing.
use Rattle.std.specs.Prelude.{ℕ, zero, suc, ◌+◌, ◌-◌, ◌%◌, Bool, not, cond, ◌&&◌, ◌||◌, List, [], ◌∷◌, eqb, leb, ltb, get_or}
use Rattle.gregorian.specs.declared.Civil.{Civil}

-- A year that 4 divides is a leap year, unless 100 divides it; one that 400 divides is a leap year all the same.
unfoldable pub is_leap : ℕ → Bool
is_leap y = eqb (y % 400) 0 || (eqb (y % 4) 0 && not (eqb (y % 100) 0))

unfoldable pub leap_day : ℕ → ℕ
leap_day y = cond (is_leap y) 1 0

-- The days of months 1 to 12 in a year with l leap days. There is no month 0.
abbrev pub month_lengths : ℕ → List ℕ
month_lengths l = 0 ∷ 31 ∷ (28 + l) ∷ 31 ∷ 30 ∷ 31 ∷ 30 ∷ 31 ∷ 31 ∷ 30 ∷ 31 ∷ 30 ∷ 31 ∷ []

-- The days of month m; 0 where there is no such month.
unfoldable pub month_length : ℕ → ℕ → ℕ
month_length y m = get_or (month_lengths (leap_day y)) m 0

-- The days of the months before month m.
unfoldable pub days_to_month : ℕ → ℕ → ℕ
days_to_month y zero = 0
days_to_month y (suc m) = days_to_month y m + month_length y m

-- A year is its twelve months.
unfoldable pub year_length : ℕ → ℕ
year_length y = days_to_month y 13

-- The days of the years before year y.
unfoldable pub days_to_year : ℕ → ℕ
days_to_year zero = 0
days_to_year (suc y) = days_to_year y + year_length y

-- There is such a day.
unfoldable pub is_date : ℕ → ℕ → ℕ → Bool
is_date y m d = leb 1 d && leb d (month_length y m)

-- The number of a day: the days before it.
unfoldable pub day_number : ℕ → ℕ → ℕ → ℕ
day_number y m d = days_to_year y + days_to_month y m + (d - 1)

abbrev pub ymd : ℕ → ℕ → ℕ → Civil
ymd y m d = record { year = y; month = m; day = d }

-- The day after: in the same month, else the first of the next month, else of the next year.
unfoldable pub day_after : Civil → Civil
day_after x =
    cond (ltb x.day (month_length x.year x.month))
    (ymd x.year x.month (suc x.day))
    (cond (ltb x.month 12) (ymd x.year (suc x.month) 1) (ymd (suc x.year) 1 1))

-- The date n days after 1 January of year 0.
unfoldable pub civil : ℕ → Civil
civil zero = ymd 0 1 1
civil (suc n) = day_after (civil n)

-- The weekday of day n, where Monday is 0. Day 0 is a Saturday, and a week has seven days.
unfoldable pub weekday_number : ℕ → ℕ
weekday_number n = (n + 5) % 7
