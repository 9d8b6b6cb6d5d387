-- The holidays of a year, as days.
-- Assumes nothing.
use Rattle.std.specs.Prelude.{cond, List, ◌∷◌, ◌++◌, map, ℤ, pos, ◌+ℤ◌, Option, Some, None}
use Rattle.std.specs.Int.Signed.{le_z}
use Rattle.dates.specs.Date.{from_ymd}
use Rattle.holidays.specs.declared.MonthDay.{MonthDay}
use Rattle.computus.specs.Easter.{easter_of}
use Rattle.holidays.specs.Holiday.{fixed_days, distances}

abbrev pub day_in : ℤ → MonthDay → Option ℤ
day_in y x = from_ymd y x.month x.day

-- Black Awareness Day.
unfoldable pub awareness_in : ℤ → Option ℤ
awareness_in y = cond (le_z (pos 2024) y) (from_ymd y 11 20) None

-- The day at a distance from Easter Sunday.
abbrev pub moved : Option ℤ → ℤ → Option ℤ
moved None distance = None
moved (Some e) distance = Some (e +ℤ distance)

-- The fixed days, 20 November, the movable days.
unfoldable pub holidays_in : ℤ → List (Option ℤ)
holidays_in y = map (day_in y) fixed_days ++ (awareness_in y ∷ map (moved (easter_of y)) distances)
