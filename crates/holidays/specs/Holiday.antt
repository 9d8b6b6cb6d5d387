-- Document 01, Holidays: eight fixed month-and-day pairs, 20 November from 2024, and Easter -48, -47, -2, +60 days (Brazil's national holidays).
-- Assumes nothing.
use Rattle.std.specs.Prelude.{ℕ, Bool, false, ◌&&◌, ◌||◌, List, [], ◌∷◌, eqb, ℤ, pos, neg_ℤ, ◌-ℤ◌, Option, Some, None}
use Rattle.std.specs.Int.Signed.{le_z}
use Rattle.lists.specs.Lists.{any}
use Rattle.dates.specs.declared.YearMonthDay.{YearMonthDay}
use Rattle.dates.specs.Date.{ymd_of}
use Rattle.holidays.specs.declared.MonthDay.{MonthDay}
use Rattle.computus.specs.Easter.{easter_of}

-- ---- the fixed days

abbrev pub on : ℕ → ℕ → MonthDay
on m d = record { month = m; day = d }

-- New Year, Tiradentes, Labour, Independence, Aparecida, All Souls, Republic, Christmas.
abbrev pub fixed_days : List MonthDay
fixed_days = on 1 1 ∷ on 4 21 ∷ on 5 1 ∷ on 9 7 ∷ on 10 12 ∷ on 11 2 ∷ on 11 15 ∷ on 12 25 ∷ []

abbrev pub is_on : ℕ → ℕ → MonthDay → Bool
is_on m d x = eqb x.month m && eqb x.day d

unfoldable pub is_fixed : ℕ → ℕ → Bool
is_fixed m d = any (is_on m d) fixed_days

-- Black Awareness Day: 20 November, from 2024 on.
unfoldable pub is_awareness : ℤ → ℕ → ℕ → Bool
is_awareness y m d = le_z (pos 2024) y && (eqb m 11 && eqb d 20)

-- ---- the movable days

-- Carnival Monday and Tuesday, Good Friday, Corpus Christi, in days after Easter Sunday.
abbrev pub distances : List ℤ
distances = neg_ℤ (pos 48) ∷ neg_ℤ (pos 47) ∷ neg_ℤ (pos 2) ∷ pos 60 ∷ []

unfoldable pub same : ℤ → ℤ → Bool
same a b = le_z a b && le_z b a

unfoldable pub is_movable : ℤ → Bool
is_movable distance = any (same distance) distances

unfoldable pub by_easter : Option ℤ → ℤ → Bool
by_easter None z = false
by_easter (Some e) z = is_movable (z -ℤ e)

-- ---- together

unfoldable pub is_holiday_on : ℤ → Option YearMonthDay → Bool
is_holiday_on z None = false
is_holiday_on z (Some x) = is_fixed x.month x.day || (is_awareness x.year x.month x.day || by_easter (easter_of x.year) z)

-- The day z from 1 January 1970 is a holiday.
unfoldable pub is_holiday : ℤ → Bool
is_holiday z = is_holiday_on z (ymd_of z)
