-- What no law fixes: the ends of the range, the epoch, the names of the days and the date after, by computation.
-- Assumes nothing.
use Rattle.std.specs.Prelude.{Option, Some, None}
use mathlib.Core.Path.{◌≡◌, refl}
use mathlib.Core.List.{List, [], ◌∷◌, map}
use lib.IntN.{pos, negsuc}
use Rattle.gregorian.specs.Count.{between, counted, signed}
use Rattle.gregorian.specs.Calendar.{is_leap, leap_day, month_length, days_to_month, is_date, day_number}
use Rattle.gregorian.proofs.Leap.{is_closed}
use Rattle.dates.specs.declared.YearMonthDay.{YearMonthDay}
use Rattle.dates.specs.declared.week.Weekday.TheVariants.{Monday, Tuesday, Wednesday, Thursday, Friday, Saturday, Sunday}
use Rattle.dates.specs.Week.{named, index_of}
use Rattle.dates.specs.Date.{dated, is_year, from_ymd, from_days, ymd_of, weekday_of, date_after}
use Rattle.dates.proofs.Counts.{epoch_is, is_day_lem}
use Rattle.dates.proofs.Laws.{date_of_day}

-- ---- the epoch is day 0

pub day_0 : from_ymd (pos 1970) 1 1 ≡ Some (pos 0)
unfolding from_ymd is_year between counted signed is_date day_number days_to_month month_length leap_day is_leap
day_0 = rw (is_closed 11970, epoch_is)

pub date_0 : ymd_of (pos 0) ≡ Some (dated (pos 1970) 1 1)
date_0 = date_of_day (pos 1970) 1 1 (pos 0) day_0

-- ---- the range: 1 January of year -9999 to 31 December 9999

pub ends : (from_ymd (negsuc 9998) 1 1 ≡ Some (negsuc 4371586)) × (from_ymd (pos 9999) 12 31 ≡ Some (pos 2932896))
unfolding from_ymd is_year between counted signed is_date day_number days_to_month month_length leap_day is_leap
ends = (rw (is_closed 1, epoch_is), rw (is_closed 19999, epoch_is))

pub no_year : (from_ymd (negsuc 9999) 12 31 ≡ None) × (from_ymd (pos 10000) 1 1 ≡ None)
unfolding from_ymd is_year between
no_year = (refl, refl)

pub within_range : map from_days (negsuc 4371587 ∷ negsuc 4371586 ∷ pos 2932896 ∷ pos 2932897 ∷ []) ≡ None ∷ Some (negsuc 4371586) ∷ Some (pos 2932896) ∷ None ∷ []
unfolding from_days between
within_range = rw (is_day_lem (negsuc 4371587), is_day_lem (negsuc 4371586), is_day_lem (pos 2932896), is_day_lem (pos 2932897))

pub out_of_range : (ymd_of (pos 2932897) ≡ None) × (weekday_of (pos 2932897) ≡ None)
unfolding ymd_of weekday_of between
out_of_range = (rw (is_day_lem (pos 2932897)), rw (is_day_lem (pos 2932897)))

-- ---- the week: Monday is 0, and from 6 on it is Sunday

pub weekdays : map named (0 ∷ 1 ∷ 2 ∷ 3 ∷ 4 ∷ 5 ∷ 6 ∷ 7 ∷ []) ≡ Monday ∷ Tuesday ∷ Wednesday ∷ Thursday ∷ Friday ∷ Saturday ∷ Sunday ∷ Sunday ∷ []
weekdays = refl

pub weekday_numbers : map index_of (Monday ∷ Tuesday ∷ Wednesday ∷ Thursday ∷ Friday ∷ Saturday ∷ Sunday ∷ []) ≡ 0 ∷ 1 ∷ 2 ∷ 3 ∷ 4 ∷ 5 ∷ 6 ∷ []
weekday_numbers = refl

-- ---- the date after: within a month, at its end with and without a leap day, at the year's end, also before year 0

abbrev after : List (Option YearMonthDay × Option YearMonthDay)
after =
    (Some (dated (pos 2024) 1 30), Some (dated (pos 2024) 1 31))
    ∷ (Some (dated (pos 2024) 4 30), Some (dated (pos 2024) 5 1))
    ∷ (Some (dated (pos 2024) 2 28), Some (dated (pos 2024) 2 29))
    ∷ (Some (dated (pos 2100) 2 28), Some (dated (pos 2100) 3 1))
    ∷ (Some (dated (negsuc 3) 2 28), Some (dated (negsuc 3) 2 29))
    ∷ (Some (dated (pos 2024) 11 30), Some (dated (pos 2024) 12 1))
    ∷ (Some (dated (negsuc 0) 12 31), Some (dated (pos 0) 1 1))
    ∷ (None, None)
    ∷ []

pub after_cases : map (λ (d : Option YearMonthDay × Option YearMonthDay). date_after d.0) after ≡ map (λ (d : Option YearMonthDay × Option YearMonthDay). d.1) after
unfolding date_after month_length leap_day is_leap
after_cases = refl
