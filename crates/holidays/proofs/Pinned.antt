-- What no law fixes: the holidays of a year from published tables, by computation.
-- Assumes nothing.
use Rattle.std.specs.Prelude.{Option, Some, None}
use mathlib.Core.Path.{◌≡◌, refl}
use mathlib.Core.Bool.{Bool, true, false}
use mathlib.Core.List.{List, [], ◌∷◌, map}
use lib.IntN.{ℤ, pos}
use Rattle.gregorian.specs.Count.{between, counted, signed}
use Rattle.gregorian.specs.Calendar.{is_leap, leap_day, month_length, days_to_month, is_date, day_number}
use Rattle.gregorian.proofs.Leap.{is_closed}
use Rattle.dates.specs.declared.YearMonthDay.{YearMonthDay}
use Rattle.dates.specs.Date.{dated, is_year, from_ymd}
use Rattle.dates.proofs.Counts.{epoch_is}
use Rattle.dates.proofs.Laws.{date_of_day}
use Rattle.lists.specs.Lists.{any}
use Rattle.holidays.specs.Holiday.{is_fixed, is_awareness, same, is_movable, by_easter, is_holiday_on, is_holiday}
use Rattle.holidays.specs.Year.{awareness_in, holidays_in}
use Rattle.computus.proofs.Cases.{easter_2024}

-- ---- the holidays of 2024, in the order of the definition; 20 November was none in 2023

pub holidays_2024 : holidays_in (pos 2024)
    ≡ Some (pos 19723) ∷ Some (pos 19834) ∷ Some (pos 19844) ∷ Some (pos 19973) ∷ Some (pos 20008) ∷ Some (pos 20029) ∷ Some (pos 20042) ∷ Some (pos 20082)
    ∷ Some (pos 20047)
    ∷ Some (pos 19765) ∷ Some (pos 19766) ∷ Some (pos 19811) ∷ Some (pos 19873) ∷ []
unfolding holidays_in awareness_in from_ymd is_year between counted signed is_date day_number days_to_month month_length leap_day is_leap
holidays_2024 = rw (easter_2024, is_closed 12024, epoch_is)

pub awareness_2023 : awareness_in (pos 2023) ≡ None
unfolding awareness_in
awareness_2023 = refl

-- ---- a day and its date, and whether it is one

abbrev days : List (ℤ × Option YearMonthDay × Bool)
days =
    (pos 19723, Some (dated (pos 2024) 1 1), true)
    ∷ (pos 19834, Some (dated (pos 2024) 4 21), true)
    ∷ (pos 19844, Some (dated (pos 2024) 5 1), true)
    ∷ (pos 19973, Some (dated (pos 2024) 9 7), true)
    ∷ (pos 20008, Some (dated (pos 2024) 10 12), true)
    ∷ (pos 20029, Some (dated (pos 2024) 11 2), true)
    ∷ (pos 20042, Some (dated (pos 2024) 11 15), true)
    ∷ (pos 20082, Some (dated (pos 2024) 12 25), true)
    ∷ (pos 20047, Some (dated (pos 2024) 11 20), true)
    -- Carnival Monday and Tuesday, Good Friday, Corpus Christi
    ∷ (pos 19765, Some (dated (pos 2024) 2 12), true)
    ∷ (pos 19766, Some (dated (pos 2024) 2 13), true)
    ∷ (pos 19811, Some (dated (pos 2024) 3 29), true)
    ∷ (pos 19873, Some (dated (pos 2024) 5 30), true)
    -- Ash Wednesday, Easter Sunday, 12 January, no date
    ∷ (pos 19767, Some (dated (pos 2024) 2 14), false)
    ∷ (pos 19813, Some (dated (pos 2024) 3 31), false)
    ∷ (pos 19734, Some (dated (pos 2024) 1 12), false)
    ∷ (pos 2932897, None, false)
    ∷ []

pub day_cases : map (λ (c : ℤ × Option YearMonthDay × Bool). is_holiday_on c.0 c.1) days ≡ map (λ (c : ℤ × Option YearMonthDay × Bool). c.2) days
unfolding is_holiday_on is_fixed is_awareness by_easter is_movable same any
day_cases = rw easter_2024

-- Good Friday by its day alone
good_friday_day : from_ymd (pos 2024) 3 29 ≡ Some (pos 19811)
unfolding from_ymd is_year between counted signed is_date day_number days_to_month month_length leap_day is_leap
good_friday_day = rw (is_closed 12024, epoch_is)

pub good_friday : is_holiday (pos 19811) ≡ true
unfolding is_holiday is_holiday_on is_fixed is_awareness by_easter is_movable same any
good_friday = rw (date_of_day (pos 2024) 3 29 (pos 19811) good_friday_day, easter_2024)

-- where there is no Easter Sunday, none is by its distance
pub no_distance : by_easter None (pos 60) ≡ false
unfolding by_easter
no_distance = refl

pub not_before_2024 : is_awareness (pos 2023) 11 20 ≡ false
unfolding is_awareness
not_before_2024 = refl
