-- What no law fixes: leap years, the lengths of the months, the first days of the count, by computation.
-- Assumes nothing.
use mathlib.Core.Path.{◌≡◌, refl}
use mathlib.Core.Bool.{true, false}
use mathlib.Core.List.{[], ◌∷◌, map}
use lib.IntN.{pos, negsuc}
use Rattle.gregorian.specs.Count.{between, counted, signed}
use Rattle.gregorian.specs.Calendar.{is_leap, leap_day, month_length, days_to_month, year_length, days_to_year, is_date, day_number, ymd, day_after, civil, weekday_number}

pub leap_years : map is_leap (1996 ∷ 1997 ∷ 1900 ∷ 2000 ∷ 2200 ∷ 2400 ∷ []) ≡ true ∷ false ∷ false ∷ true ∷ false ∷ true ∷ []
unfolding is_leap
leap_years = refl

-- there is no month 0 and no month 13
pub month_lengths_lem : map (month_length 2023) (0 ∷ 1 ∷ 2 ∷ 3 ∷ 4 ∷ 5 ∷ 6 ∷ 7 ∷ 8 ∷ 9 ∷ 10 ∷ 11 ∷ 12 ∷ 13 ∷ [])
    ≡ 0 ∷ 31 ∷ 28 ∷ 31 ∷ 30 ∷ 31 ∷ 30 ∷ 31 ∷ 31 ∷ 30 ∷ 31 ∷ 30 ∷ 31 ∷ 0 ∷ []
unfolding month_length leap_day is_leap
month_lengths_lem = refl

pub year_lengths : map year_length (2023 ∷ 2024 ∷ []) ≡ 365 ∷ 366 ∷ []
unfolding year_length days_to_month month_length leap_day is_leap
year_lengths = refl

pub days_of_february : is_date 2024 2 29 ∷ is_date 2023 2 29 ∷ is_date 2023 2 28 ∷ is_date 2023 2 0 ∷ [] ≡ true ∷ false ∷ true ∷ false ∷ []
unfolding is_date month_length leap_day is_leap
days_of_february = refl

-- year 0 of the count is a leap year, and its day 0 a Saturday
pub first_days_lem : map civil (0 ∷ 31 ∷ 59 ∷ 60 ∷ 366 ∷ []) ≡ ymd 0 1 1 ∷ ymd 0 2 1 ∷ ymd 0 2 29 ∷ ymd 0 3 1 ∷ ymd 1 1 1 ∷ []
unfolding civil day_after month_length leap_day is_leap
first_days_lem = refl

pub first_numbers : day_number 0 1 1 ∷ day_number 0 3 1 ∷ day_number 1 1 1 ∷ [] ≡ 0 ∷ 60 ∷ 366 ∷ []
unfolding day_number days_to_year year_length days_to_month month_length leap_day is_leap
first_numbers = refl

pub first_week : map weekday_number (0 ∷ 1 ∷ 2 ∷ []) ≡ 5 ∷ 6 ∷ 0 ∷ []
unfolding weekday_number
first_week = refl

-- counted from −10
pub counts : (counted 10 (negsuc 2) ≡ 7) × (signed 10 7 ≡ negsuc 2) × (map (between (negsuc 2) (pos 4)) (negsuc 3 ∷ negsuc 2 ∷ pos 4 ∷ pos 5 ∷ []) ≡ false ∷ true ∷ true ∷ false ∷ [])
unfolding counted signed between
counts = (refl, refl, refl)
