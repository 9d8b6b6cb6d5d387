-- A day, a date and a weekday as one number each, and what stands for an absent one.
use Rattle.std.specs.Prelude.{ℕ, ◌+◌, ◌*◌, ℤ, pos, negsuc, ◌+ℤ◌, Option, Some, None}
use Rattle.dates.specs.declared.week.Weekday.{Weekday}
use Rattle.dates.specs.declared.YearMonthDay.{YearMonthDay}
use Rattle.dates.specs.Week.{index_of}

-- the least number of 64 bits
abbrev pub absent : ℤ
absent = negsuc 0x7fff_ffff_ffff_ffff

-- 1 where there is a number
abbrev pub presence : Option ℤ → ℕ
presence None = 0
presence (Some z) = 1

abbrev pub number_of : Option ℤ → ℤ
number_of (Some z) = z
number_of None = absent

-- month and day above the year
abbrev pub date_number : Option YearMonthDay → ℤ
date_number (Some x) = pos ((x.month * 100 + x.day) * 1048576) +ℤ x.year
date_number None = absent

abbrev pub weekday_number : Option Weekday → ℤ
weekday_number (Some w) = pos (index_of w)
weekday_number None = absent
