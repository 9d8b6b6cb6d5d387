-- Document 01's case of Easter: Easter 2024 is day 19,813.
-- Assumes nothing.
use Rattle.std.specs.Prelude.{Some}
use mathlib.Core.Path.{◌≡◌}
use lib.IntN.{pos}
use Rattle.gregorian.specs.Count.{between, counted, signed}
use Rattle.gregorian.specs.Calendar.{is_leap, leap_day, month_length, days_to_month, day_number, weekday_number}
use Rattle.gregorian.proofs.Leap.{is_closed}
use Rattle.dates.specs.Date.{is_year}
use Rattle.dates.proofs.Counts.{epoch_is}
use Rattle.computus.specs.Easter.{golden, century, solar, lunar, age, raised, epact, from_equinox, full_moon, sunday_after, easter_of}

pub easter_2024 : easter_of (pos 2024) ≡ Some (pos 19813)
unfolding easter_of is_year between counted signed day_number days_to_month month_length leap_day is_leap weekday_number golden century solar lunar age raised epact from_equinox full_moon sunday_after
easter_2024 = rw (is_closed 12024, epoch_is)
