-- Months and their first days: each date is in its month, and both rise together.
-- Assumes nothing.
use Prim.Native.Nat.{ℕ, zero, suc, ◌+◌, ◌-◌, ◌*◌, ◌/◌, ◌%◌, ◌≤◌, ◌<◌}
use mathlib.Core.Path.{◌≡◌, refl, ap}
use native.Mathlib.Omega.{arith}
use native.Mathlib.Nat.{le_trans, le_of_eq}
use native.Mathlib.Decide.{dec_le, dec_lt}
use native.Mathlib.Numerals.{add-one}
use lib.IntN.{pos}
use Rattle.gregorian.specs.Count.{counted}
use Rattle.gregorian.specs.Calendar.{month_length, days_to_month, year_length, days_to_year, day_number, civil}
use Rattle.gregorian.proofs.Laws.{months, number_civil}
use Rattle.dates.specs.Date.{epoch, day_count}
use Rattle.months.specs.Months.{month_number, first_day}

-- ---- first days

-- the number of a month's first day
start : ℕ → ℕ
start m = day_number (m / 12) (m % 12 + 1) 1

start_next : (m : ℕ) → start (m + 1) ≡ start m + month_length (m / 12) (m % 12 + 1)
unfolding start day_number days_to_month days_to_year year_length month_length
start_next m = go (dec_lt (m % 12) 11)
  where
    within : (y k y' k' : ℕ) → y' ≡ y → k' ≡ suc k → day_number y' k' 1 ≡ day_number y k 1 + month_length y k
    within y k y' k' p q = rw (p, q) (omega arith)

    over : (y k y' k' : ℕ) → y' ≡ suc y → k' ≡ 1 → k ≡ 12 → day_number y' k' 1 ≡ day_number y k 1 + month_length y k
    over y k y' k' p q r = rw (p, q, r) (omega arith)

    go : Dec (m % 12 < 11) → start (m + 1) ≡ start m + month_length (m / 12) (m % 12 + 1)
    go (yes h) = within (m / 12) (m % 12 + 1) ((m + 1) / 12) ((m + 1) % 12 + 1) (omega arith) (omega arith)
    go (no h) = over (m / 12) (m % 12 + 1) ((m + 1) / 12) ((m + 1) % 12 + 1) (omega arith) (omega arith) (omega arith)

start_rises : (a b : ℕ) → a ≤ b → start a ≤ start b
start_rises a zero h = let e : a ≡ 0 = omega arith in le_of_eq (ap start e)
start_rises a (suc b) h = go (dec_le a b) (start_rises a b)
  where
    go : Dec (a ≤ b) → (a ≤ b → start a ≤ start b) → start a ≤ start (suc b)
    go (yes k) r = le_trans (r k) (omega (arith, start_next b, ap start (add-one b)))
    go (no k) r = let e : a ≡ suc b = omega arith in le_of_eq (ap start e)

pub first_rises : (a b : ℕ) → a ≤ b → first_day a ≤ first_day b
unfolding first_day start
first_rises a b h = omega (arith, start_rises a b h)

-- January 1970
abbrev january1970 : ℕ
january1970 = 143640

epoch_start : start january1970 ≡ epoch
unfolding start epoch counted
epoch_start = refl

-- each month has a day
pub month_some : (y m : ℕ) → 1 ≤ m → m ≤ 12 → 1 ≤ month_length y m
unfolding month_length
month_some y = months (λ (m : ℕ). 1 ≤ month_length y m) (omega arith)

-- from then on a month ends where the next one begins
pub first_next : (m : ℕ) → january1970 ≤ m → first_day m + month_length (m / 12) (m % 12 + 1) ≡ first_day (m + 1)
unfolding first_day start
first_next m h = omega (arith, start_next m, start_rises january1970 m h, epoch_start)

-- ---- the month of a date

-- a number from 0 up, counted from -a
pub counted_is : (a n : ℕ) → counted a (pos n) ≡ a + n
unfolding counted
counted_is a n = omega arith

parts : (y m : ℕ) → 1 ≤ m → m ≤ 12 → ((y * 12 + (m - 1)) / 12 ≡ y) × ((y * 12 + (m - 1)) % 12 + 1 ≡ m)
parts y m h k = omega arith

-- a date's year and month by its month's number
record Numbered (date : ℕ) : Type 0 where
  year : month_number date / 12 ≡ (civil (day_count (pos date))).year
  month : month_number date % 12 + 1 ≡ (civil (day_count (pos date))).month

number_parts : (date : ℕ) → Numbered date
unfolding month_number
number_parts date =
    let x = civil (day_count (pos date)) in
    let v = (number_civil (day_count (pos date))).valid in
    let p = parts x.year x.month v.from_january v.to_december in
    record { year = p.0; month = p.1 }

day_numbered : (n : ℕ) → day_number (civil n).year (civil n).month 1 + (civil n).day ≡ n + 1
unfolding day_number
day_numbered n = let g = number_civil n in omega (arith, g.number, g.valid.from_first)

-- the days before a date's month, and its day in it
numbered : (date : ℕ) → start (month_number date) + (civil (day_count (pos date))).day ≡ epoch + date + 1
unfolding start
numbered date = let n = number_parts date in rw (n.year, n.month) (omega (arith, day_numbered (day_count (pos date)), counted_is epoch date))

-- the first day of a date's month
pub month_start_lem : (date : ℕ) → date + 1 - (civil (day_count (pos date))).day ≡ first_day (month_number date)
unfolding first_day start
month_start_lem date = omega (arith, numbered date)

pub month_within : (date : ℕ) → (first_day (month_number date) ≤ date) × (date < first_day (month_number date + 1))
unfolding first_day start
month_within date =
    let n = number_parts date in
    let v = (number_civil (day_count (pos date))).valid in
    let l : (civil (day_count (pos date))).day ≤ month_length (month_number date / 12) (month_number date % 12 + 1) = rw (n.year, n.month) v.to_last in
    omega (arith, numbered date, v.from_first, start_next (month_number date))

-- ---- months by their days

-- from a month's first day on the months are not before it
pub from_month : (m date : ℕ) → first_day m ≤ date → m ≤ month_number date
from_month m date h = go (dec_le m (month_number date))
  where
    go : Dec (m ≤ month_number date) → m ≤ month_number date
    go (yes k) = k
    go (no k) = absurd (omega (arith, month_within date, first_rises (month_number date + 1) m (omega arith)))

-- and until then they are
pub before_month : (m date : ℕ) → date < first_day m → month_number date < m
before_month m date h = go (dec_le m (month_number date))
  where
    go : Dec (m ≤ month_number date) → month_number date < m
    go (yes k) = absurd (omega (arith, month_within date, first_rises m (month_number date) k))
    go (no k) = omega arith

pub month_is : (m date : ℕ) → first_day m ≤ date → date < first_day (m + 1) → month_number date ≡ m
month_is m date h k = omega (arith, from_month m date h, before_month (m + 1) date k)

pub month_first : (m : ℕ) → january1970 ≤ m → month_number (first_day m) ≡ m
month_first m h = month_is m (first_day m) (omega arith) (omega (arith, first_next m h, month_some (m / 12) (m % 12 + 1) (omega arith) (omega arith)))

pub months_rise : (a b : ℕ) → a ≤ b → month_number a ≤ month_number b
months_rise a b h = from_month (month_number a) b (omega (arith, month_within a))
