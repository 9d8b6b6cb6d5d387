-- The years and days of a date against their counts from below.
-- Assumes nothing.
use Prim.Native.Nat.{ℕ, ◌≤◌}
use mathlib.Core.Path.{◌≡◌, sym, ◌∙◌}
use mathlib.Core.Bool.{true}
use native.Mathlib.Omega.{arith}
use lib.IntN.{ℤ, pos, negsuc}
use lib.Signed.{◌≤ℤ◌}
use Rattle.gregorian.specs.Count.{between, counted, signed}
use Rattle.gregorian.specs.Calendar.{is_leap, leap_day, month_length, days_to_month, day_number, civil}
use Rattle.gregorian.proofs.Leap.{is_closed}
use Rattle.gregorian.proofs.Counts.{between_true, Within, within, in_range_lem}
use Rattle.gregorian.proofs.Laws.{Valid, number_from, number_before, year_from, year_before}
use Rattle.dates.specs.Date.{is_year, year_count, signed_year, epoch, signed_day, is_day}

-- ---- years, counted from year -10000
pub year_within : (y : ℤ) → is_year y ≡ true → Within 10000 1 19999 y
unfolding is_year signed
year_within y e = within 10000 1 19999 y e

pub year_in : (n : ℕ) → 1 ≤ n → n ≤ 19999 → is_year (signed_year n) ≡ true
unfolding is_year signed
year_in n h k = in_range_lem 10000 1 19999 n h k

-- ---- days, counted from 1 January of year -10000
pub epoch_is : epoch ≡ 4371953
unfolding epoch counted day_number days_to_month month_length leap_day
epoch_is = rw (is_closed 11970)

first_day_lem : day_number (year_count (negsuc 9998)) 1 1 ≡ 366
unfolding counted day_number days_to_month month_length leap_day
first_day_lem = rw (is_closed 1)

last_day_lem : day_number (year_count (pos 9999)) 12 31 ≡ 7304849
unfolding counted day_number days_to_month month_length leap_day is_leap
last_day_lem = rw (is_closed 19999)

pub is_day_lem : (z : ℤ) → is_day z ≡ between (negsuc 4371586) (pos 2932896) z
unfolding is_day signed
is_day_lem z = rw (first_day_lem, last_day_lem, epoch_is)

pub day_bounds : (z : ℤ) → is_day z ≡ true → (negsuc 4371586 ≤ℤ z) × (z ≤ℤ pos 2932896)
day_bounds z e = between_true (negsuc 4371586) (pos 2932896) z (sym (is_day_lem z) ∙ e)

pub day_within : (z : ℤ) → is_day z ≡ true → Within epoch 366 7304849 z
unfolding is_day
day_within z e = within epoch 366 7304849 z (rw (first_day_lem, last_day_lem) at e)

pub day_in_lem : (n : ℕ) → 366 ≤ n → n ≤ 7304849 → is_day (signed_day n) ≡ true
unfolding is_day
day_in_lem n h k = rw (first_day_lem, last_day_lem) (in_range_lem epoch 366 7304849 n h k)

-- the numbers of the days of those years
pub number_within : (y m d : ℕ) → 1 ≤ y → y ≤ 19999 → Valid y m d → (366 ≤ day_number y m d) × (day_number y m d ≤ 7304849)
number_within y m d h k v = omega (arith, number_from 1 y m d h, number_before y m d 20000 v (omega arith), is_closed 1, is_closed 20000)

-- and the years of those days
pub civil_within : (n : ℕ) → 366 ≤ n → n ≤ 7304849 → (1 ≤ (civil n).year) × ((civil n).year ≤ 19999)
civil_within n h k = (year_from 1 n (omega (arith, is_closed 1)), year_before 19999 n (omega (arith, is_closed 20000)))
