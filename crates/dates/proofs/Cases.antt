-- Document 01's cases of dates: 29 February 2000 is day 11,016, and there is no 29 February 2100.
-- Assumes nothing.
use Rattle.std.specs.Prelude.{Some, None}
use mathlib.Core.Path.{◌≡◌, refl}
use lib.IntN.{pos}
use Rattle.gregorian.specs.Count.{between, counted, signed}
use Rattle.gregorian.specs.Calendar.{is_leap, leap_day, month_length, days_to_month, is_date, day_number}
use Rattle.gregorian.proofs.Leap.{is_closed}
use Rattle.dates.specs.Date.{is_year, from_ymd}
use Rattle.dates.proofs.Counts.{epoch_is}

pub leap_day_2000 : from_ymd (pos 2000) 2 29 ≡ Some (pos 11016)
unfolding from_ymd is_year between counted signed is_date day_number days_to_month month_length leap_day is_leap
leap_day_2000 = rw (is_closed 12000, epoch_is)

pub no_leap_day_2100 : from_ymd (pos 2100) 2 29 ≡ None
unfolding from_ymd is_year between counted is_date month_length leap_day is_leap
no_leap_day_2100 = refl
