-- Which dates a calendar works.
use Rattle.std.specs.Prelude.{ℕ, ◌/◌, ◌%◌, ◌^◌, Bool, false, not, cond, ◌&&◌, ◌||◌, List, [], ◌∷◌, eqb, pos, Some, None, Option, unwrap_or}
use Rattle.format.specs.declared.Region.{Region}
use Rattle.format.specs.declared.Region.TheVariants as regions
use Rattle.format.specs.Book.{Exception, Calendar, Activity, Book}
use Rattle.dates.specs.declared.week.Weekday.{Weekday}
use Rattle.dates.specs.Week.{index_of}
use Rattle.dates.specs.Date.{weekday_of}
use Rattle.holidays.specs.Holiday.{is_holiday}
use Rattle.lists.specs.Lists.{any}
use Rattle.model.specs.Lookup.{calendar_at}

-- the date is one of the list
abbrev pub is_listed : List ℕ → ℕ → Bool
is_listed days date = any (eqb date) days

-- what the exceptions say of a date, if anything
unfoldable pub exception_on : List Exception → ℕ → Option Bool
exception_on [] date = None
exception_on (e ∷ es) date = cond (eqb date e.day) (Some e.working) (exception_on es date)

unfoldable pub is_region_holiday : Region → ℕ → Bool
is_region_holiday regions.None date = false
is_region_holiday regions.Brazil date = is_holiday (pos date)

-- the weekday's bit of the week, bit 0 Monday
unfoldable pub works_on : ℕ → Option Weekday → Bool
works_on week None = false
works_on week (Some weekday) = eqb (week / 2 ^ index_of weekday % 2) 1

-- the extra days, then the holidays and the region, then the week
unfoldable pub usually_works : Calendar → ℕ → Bool
usually_works c date =
    is_listed c.extra_days date
    || (not (is_listed c.holidays date || is_region_holiday c.region date) && works_on c.week (weekday_of (pos date)))

-- document 01's `is_working`: the exceptions before all else
unfoldable pub is_working : Calendar → ℕ → Bool
is_working c date = unwrap_or (exception_on c.exceptions date) (usually_works c date)

-- an activity's calendar: none is calendar 0, the project's
unfoldable pub calendar_of : Book → Activity → Calendar
calendar_of book a = calendar_at book (unwrap_or a.calendar 0)
