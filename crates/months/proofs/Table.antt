-- The table of first days against the calendar: a test at each entry, which the checker computes, and its rule.
-- Assumes nothing.
use Rattle.std.specs.Prelude.{Some}
use Prim.Native.Nat.{ℕ, ◌+◌, ◌-◌, ◌/◌, ◌%◌, ◌≤◌, ◌<◌}
use mathlib.Core.Path.{◌≡◌, sym, ap, ap₂, ◌∙◌}
use mathlib.Core.Bool.{Bool, true}
use native.Mathlib.Omega.{arith}
use lib.Dec.{eqb, eqb→eq, lit≤}
use lib.IntN.{pos}
use lib.ListN.{get_or}
use Rattle.integer.specs.Linear.{linear, dif}
use Rattle.gregorian.specs.Count.{counted, signed}
use Rattle.gregorian.specs.Calendar.{is_leap, leap_day, month_length, days_to_month, is_date, day_number}
use Rattle.gregorian.proofs.Below.{at_below}
use Rattle.gregorian.proofs.Leap.{closed, is_closed}
use Rattle.gregorian.proofs.Laws.{is_date_lem}
use Rattle.dates.specs.Date.{epoch, is_year, from_ymd}
use Rattle.dates.proofs.Counts.{epoch_is, year_in}
use Rattle.months.specs.Months.{first_day, january2000}
use Rattle.months.specs.Table.{first_days}
use Rattle.months.proofs.Laws.{first_rises, month_some, counted_is}

-- the first day of a month in a form that computes at once
abbrev pub computed : ℕ → ℕ
computed m = closed (m / 12) + days_to_month (m / 12) (m % 12 + 1) + (1 - 1) - 4371953

pub first_computed : (m : ℕ) → first_day m ≡ computed m
unfolding first_day day_number
first_computed m = rw (is_closed (m / 12), epoch_is)

pub first_of_all : first_day january2000 ≡ 10957
unfolding days_to_month month_length leap_day is_leap
first_of_all = first_computed january2000

pub end_of_all : first_day (january2000 + 1200) ≡ 47482
unfolding days_to_month month_length leap_day is_leap
end_of_all = first_computed (january2000 + 1200)

pub first_least : (m : ℕ) → january2000 ≤ m → 10957 ≤ first_day m
first_least m h = omega (arith, first_of_all, first_rises january2000 m h)

pub first_most : (m : ℕ) → m ≤ january2000 + 1200 → first_day m ≤ 47482
first_most m h = omega (arith, end_of_all, first_rises m (january2000 + 1200) h)

-- ---- the table

-- entry i is the first day of month i
abbrev is_entry : ℕ → Bool
is_entry i = eqb (get_or first_days i 0) (computed (january2000 + i))

pub entries : (i : ℕ) → i < 1200 → get_or first_days i 0 ≡ first_day (january2000 + i)
unfolding first_days days_to_month month_length leap_day is_leap
entries i h = eqb→eq (get_or first_days i 0) (computed (january2000 + i)) (at_below is_entry 1200 tt i h) ∙ sym (first_computed (january2000 + i))

-- ---- against `from_ymd`

signed_is : (a n : ℕ) → signed a (a + n) ≡ pos n
unfolding signed
signed_is a n = omega (linear, dif (pos (a + n)) (pos a))

first_date_lem : (y m : ℕ) → 1 ≤ m → m ≤ 12 → is_date y m 1 ≡ true
first_date_lem y m h k = is_date_lem y m 1 (record { from_january = h; to_december = k; from_first = lit≤ tt; to_last = month_some y m h k })

number_is : (i : ℕ) → day_number (12000 + i / 12) (i % 12 + 1) 1 ≡ epoch + first_day (january2000 + i)
unfolding first_day
number_is i =
    let y : 12000 + i / 12 ≡ (january2000 + i) / 12 = omega arith in
    let m : i % 12 + 1 ≡ (january2000 + i) % 12 + 1 = omega arith in
    ap₂ (λ (y m : ℕ). day_number y m 1) y m ∙ omega (arith, first_least (january2000 + i) (omega arith))

-- The table agrees with `from_ymd` at each of its entries.
pub table_agrees : (i : ℕ) → i < 1200 → from_ymd (pos (2000 + i / 12)) (i % 12 + 1) 1 ≡ Some (pos (get_or first_days i 0))
unfolding from_ymd
table_agrees i h =
    let n = 2000 + i / 12 in
    let c : counted 10000 (pos n) ≡ 12000 + i / 12 = counted_is 10000 n ∙ omega arith in
    let y : is_year (pos n) ≡ true = sym (ap is_year (signed_is 10000 n)) ∙ year_in (10000 + n) (omega arith) (omega arith) in
    rw (y, c, first_date_lem (12000 + i / 12) (i % 12 + 1) (omega arith) (omega arith))
    (ap Some (ap (signed epoch) (number_is i) ∙ signed_is epoch (first_day (january2000 + i)) ∙ ap pos (sym (entries i h))))
