-- What no law fixes: Easter Sundays from published tables, by computation.
-- Assumes nothing.
use Rattle.std.specs.Prelude.{Some, None}
use mathlib.Core.Path.{◌≡◌, refl}
use mathlib.Core.List.{[], ◌∷◌, map}
use lib.IntN.{pos, negsuc}
use Rattle.gregorian.specs.Count.{between, counted, signed}
use Rattle.gregorian.specs.Calendar.{is_leap, leap_day, month_length, days_to_month, day_number, weekday_number}
use Rattle.gregorian.proofs.Leap.{is_closed}
use Rattle.dates.specs.Date.{is_year}
use Rattle.dates.proofs.Counts.{epoch_is}
use Rattle.computus.specs.Easter.{golden, century, solar, lunar, age, raised, epact, from_equinox, full_moon, sunday_after, easter_of}

-- 22 March 1693, the earliest there is; 23 March 1704; 25 April 1886, the latest; 18 April 1954 and 19 April 1981, where the epact is one more; 20 April 2025, a
-- week after a full moon on a Sunday; 18 April 3165, of golden number 12
pub easters : map easter_of (pos 1693 ∷ pos 1704 ∷ pos 1886 ∷ pos 1954 ∷ pos 1981 ∷ pos 2025 ∷ pos 3165 ∷ [])
    ≡ Some (negsuc 101090) ∷ Some (negsuc 97072) ∷ Some (negsuc 30565) ∷ Some (negsuc 5736) ∷ Some (pos 4126) ∷ Some (pos 20198) ∷ Some (pos 436572) ∷ []
unfolding easter_of is_year between counted signed day_number days_to_month month_length leap_day is_leap weekday_number golden century solar lunar age raised epact from_equinox full_moon sunday_after
easters = rw (is_closed 11693, is_closed 11704, is_closed 11886, is_closed 11954, is_closed 11981, is_closed 12025, is_closed 13165, epoch_is)

-- none in a year out of range
pub no_easter : easter_of (pos 10000) ≡ None
unfolding easter_of is_year between
no_easter = refl
