-- Easter Sunday by the Gregorian computus, as it is published: the first Sunday after the Church's full moon on or after 21 March.
-- Its formulas take the year counted from year -5,700,000. After 5,700,000 years the computus repeats: they are a multiple of 19
-- and of 400, and the solar and the lunar correction over them, 42,750 and 18,240, are multiples of 30. So a year before year 0
-- needs no other constants. Assumes nothing.
use Rattle.std.specs.Prelude.{ℕ, ◌+◌, ◌-◌, ◌*◌, ◌/◌, ◌%◌, cond, ◌&&◌, ◌||◌, eqb, ltb, ℤ, Option, Some, None}
use Rattle.gregorian.specs.Count.{counted}
use Rattle.gregorian.specs.Calendar.{day_number, weekday_number}
use Rattle.dates.specs.Date.{is_year, year_count, signed_day}

-- The year's place in the moon's cycle of 19 years, from 1.
unfoldable pub golden : ℕ → ℕ
golden y = y % 19 + 1

unfoldable pub century : ℕ → ℕ
century y = y / 100 + 1

-- The leap days that the centuries left out, and the correction of the moon's cycle.
unfoldable pub solar : ℕ → ℕ
solar c = 3 * c / 4 - 12

unfoldable pub lunar : ℕ → ℕ
lunar c = (8 * c + 5) / 25 - 5

-- The age of the moon at the new year, for golden number g in century c: 11 days a year, plus the lunar correction, minus the solar one.
-- By 30, minus once is plus 29 times.
unfoldable pub age : ℕ → ℕ → ℕ
age g c = (11 * g + 20 + lunar c + 29 * solar c) % 30

-- The epact: an age of 24, and of 25 with a golden number above 11, is one more.
unfoldable pub raised : ℕ → ℕ → ℕ
raised g a = cond (eqb a 24 || (eqb a 25 && ltb 11 g)) (a + 1) a

unfoldable pub epact : ℕ → ℕ
epact y = raised (golden y) (age (golden y) (century y))

-- The full moon's day of March, counted on through April: on or after 21 March, else 30 days later.
unfoldable pub from_equinox : ℕ → ℕ
from_equinox n = cond (ltb n 21) (n + 30) n

unfoldable pub full_moon : ℕ → ℕ
full_moon y = from_equinox (44 - epact y)

-- The first Sunday after day n. Sunday is weekday 6.
unfoldable pub sunday_after : ℕ → ℕ
sunday_after n = n + (7 - (weekday_number n + 1) % 7)

unfoldable pub easter_of : ℤ → Option ℤ
easter_of y = cond (is_year y) (Some (signed_day (sunday_after (day_number (year_count y) 3 (full_moon (counted 5700000 y)))))) None
