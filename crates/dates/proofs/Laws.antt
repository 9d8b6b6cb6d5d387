-- What the definitions of dates say: `ymd` and `from_ymd` undo each other, the day after, the weekday after, the shift of the years.
-- Assumes nothing.
use Rattle.std.specs.Prelude.{Some}
use Prim.Native.Nat.{ℕ, suc, ◌+◌, ◌-◌, ◌%◌, ◌<◌}
use mathlib.Core.Path.{◌≡◌, refl, sym, ap, ◌∙◌}
use mathlib.Core.Bool.{Bool, true, false, cond, ◌&&◌}
use native.Mathlib.Omega.{arith}
use native.Mathlib.Decide.{ℕ_discrete}
use lib.Dec.{eqb, ltb}
use lib.ListN.{get_or}
use lib.IntN.{ℤ, pos, nat_abs, ◌+ℤ◌, ◌-ℤ◌}
use borrow.Author.Tests.{eq-eqb, ne_eqb}
use Rattle.integer.specs.Linear.{linear, sum, dif, abs, apart}
use Rattle.gregorian.specs.declared.Civil.{Civil}
use Rattle.gregorian.specs.Count.{between, counted, signed}
use Rattle.gregorian.specs.Calendar.{is_leap, leap_day, month_lengths, month_length, is_date, day_number, ymd, day_after, civil, weekday_number}
use Rattle.gregorian.proofs.Below.{at_each}
use Rattle.gregorian.proofs.Counts.{counted_signed, next_count}
use Rattle.gregorian.proofs.Laws.{and_both, valid, is_date_lem, number_civil, civil_number}
use Rattle.dates.specs.declared.YearMonthDay.{YearMonthDay}
use Rattle.dates.specs.declared.week.Weekday.{Weekday}
use Rattle.dates.specs.declared.week.Weekday.TheVariants.{Thursday}
use Rattle.dates.specs.Week.{named, index_of}
use Rattle.dates.specs.Date.{dated, is_year, year_count, signed_year, epoch, day_count, signed_day, is_day, from_ymd, date_of, ymd_of, weekday_of, date_after}
use Rattle.dates.proofs.Counts.{epoch_is, is_day_lem, year_within, year_in, day_within, day_in_lem, number_within, civil_within}

-- an answer that is not the one for none
picked : {A : Type 0} (b : Bool) {x y w : A} → (y ≡ w → ⊥) → cond b x y ≡ w → (b ≡ true) × (x ≡ w)
picked true n e = (refl, e)
picked false n e = absurd (n e)

no_clash : ◌≡◌ {A = ℕ} 0 1 → ⊥
no_clash e = omega arith

-- ---- from a date to its day, and back

pub record FromYmd (y : ℤ) (m d : ℕ) (z : ℤ) : Type 0 where
  pub year : is_year y ≡ true
  pub date : is_date (year_count y) m d ≡ true
  pub day : signed_day (day_number (year_count y) m d) ≡ z

-- what an answer of `from_ymd` says
pub from_ymd_at : (y : ℤ) (m d : ℕ) (z : ℤ) → from_ymd y m d ≡ Some z → FromYmd y m d z
unfolding from_ymd
from_ymd_at y m d z e =
    let p = picked (is_year y && is_date (year_count y) m d) (λ q. no_clash (cc)) e in
    let t = and_both (is_year y) (is_date (year_count y) m d) p.0 in
    record { year = t.0; date = t.1; day = cc }

-- the day of a date is in range
pub day_of_date : (y : ℤ) (m d : ℕ) (z : ℤ) → from_ymd y m d ≡ Some z → is_day z ≡ true
day_of_date y m d z e =
    let f = from_ymd_at y m d z e in
    let w = year_within y f.year in
    let b = number_within (year_count y) m d w.from w.upto (valid (year_count y) m d f.date) in
    rw (← f.day) (day_in_lem _ b.0 b.1)

-- the date of a date's day is the date
pub date_of_day : (y : ℤ) (m d : ℕ) (z : ℤ) → from_ymd y m d ≡ Some z → ymd_of z ≡ Some (dated y m d)
unfolding ymd_of
date_of_day y m d z e =
    let f = from_ymd_at y m d z e in
    let w = year_within y f.year in
    let v = valid (year_count y) m d f.date in
    rw (day_of_date y m d z e, ← f.day, counted_signed epoch (day_number (year_count y) m d), civil_number (year_count y) m d v, w.back)

pub record YmdOf (z : ℤ) (y : ℤ) (m d : ℕ) : Type 0 where
  pub in_range_lem : is_day z ≡ true
  pub year : signed_year (civil (day_count z)).year ≡ y
  pub month : (civil (day_count z)).month ≡ m
  pub day : (civil (day_count z)).day ≡ d

-- what an answer of `ymd_of` says
pub ymd_of_lem : (z y : ℤ) (m d : ℕ) → ymd_of z ≡ Some (dated y m d) → YmdOf z y m d
unfolding ymd_of
ymd_of_lem z y m d e =
    let p = picked (is_day z) (λ q. no_clash (cc)) e in
    let q : date_of (civil (day_count z)) ≡ dated y m d = cc in
    record {
      in_range_lem = p.0;
      year = ap (λ (x : YearMonthDay). x.year) q;
      month = ap (λ (x : YearMonthDay). x.month) q;
      day = ap (λ (x : YearMonthDay). x.day) q;
    }

-- the day of a day's date is the day
pub day_of_ymd : (z y : ℤ) (m d : ℕ) → ymd_of z ≡ Some (dated y m d) → from_ymd y m d ≡ Some z
unfolding from_ymd
day_of_ymd z y m d e =
    let o = ymd_of_lem z y m d e in
    let w = day_within z o.in_range_lem in
    let x = civil (day_count z) in
    let b = civil_within (day_count z) w.from w.upto in
    let g = number_civil (day_count z) in
    rw (← o.year, ← o.month, ← o.day, year_in x.year b.0 b.1, counted_signed 10000 x.year, is_date_lem _ _ _ g.valid, g.number, w.back)

-- ---- the shift of the years

apart_years : (n : ℕ) → nat_abs (signed_year n) ≡ (n - 10000) + (10000 - n)
unfolding signed
apart_years n = let s = pos n -ℤ pos 10000 in omega (linear, dif (pos n) (pos 10000), abs s, apart s)

zeros : (a b : ℕ) → (a ≡ 0 → b ≡ 0) → (b ≡ 0 → a ≡ 0) → eqb a 0 ≡ eqb b 0
zeros a b f g = go (ℕ_discrete a 0)
  where
    go : Dec (a ≡ 0) → eqb a 0 ≡ eqb b 0
    go (yes h) = eq-eqb a 0 h ∙ sym (eq-eqb b 0 (f h))
    go (no h) = ne_eqb a 0 h ∙ sym (ne_eqb b 0 (λ k. h (g k)))

-- 10,000 years are 25 times 400: a year and its count are leap years together
pub same_leap : (n : ℕ) → is_leap (nat_abs (signed_year n)) ≡ is_leap n
unfolding is_leap
same_leap n = let e = apart_years n in rw (e, zeros _ (n % 400) (to400 n) (of400 n), zeros _ (n % 100) (to100 n) (of100 n), zeros _ (n % 4) (to4 n) (of4 n))
  where
    to400 : (n : ℕ) → ((n - 10000) + (10000 - n)) % 400 ≡ 0 → n % 400 ≡ 0
    to400 n h = omega arith

    of400 : (n : ℕ) → n % 400 ≡ 0 → ((n - 10000) + (10000 - n)) % 400 ≡ 0
    of400 n h = omega arith

    to100 : (n : ℕ) → ((n - 10000) + (10000 - n)) % 100 ≡ 0 → n % 100 ≡ 0
    to100 n h = omega arith

    of100 : (n : ℕ) → n % 100 ≡ 0 → ((n - 10000) + (10000 - n)) % 100 ≡ 0
    of100 n h = omega arith

    to4 : (n : ℕ) → ((n - 10000) + (10000 - n)) % 4 ≡ 0 → n % 4 ≡ 0
    to4 n h = omega arith

    of4 : (n : ℕ) → n % 4 ≡ 0 → ((n - 10000) + (10000 - n)) % 4 ≡ 0
    of4 n h = omega arith

-- ---- the day after

same_months : (n m : ℕ) → month_length (nat_abs (signed_year n)) m ≡ month_length n m
unfolding month_length leap_day
same_months n m = ap (λ (b : Bool). get_or (month_lengths (cond b 1 0)) m 0) (same_leap n)

next_year : (n : ℕ) → signed_year (suc n) ≡ signed_year n +ℤ pos 1
unfolding signed
next_year n =
    let s = pos n -ℤ pos 10000 in
    omega (linear, dif (pos (suc n)) (pos 10000), dif (pos n) (pos 10000), sum s (pos 1))

date_step : (x : Civil) → Some (date_of (day_after x)) ≡ date_after (Some (date_of x))
unfolding day_after date_after
date_step x = rw (same_months x.year x.month) (go (ltb x.day (month_length x.year x.month)) (ltb x.month 12))
  where
    go : (a b : Bool) →
        Some (date_of (cond a (ymd x.year x.month (suc x.day)) (cond b (ymd x.year (suc x.month) 1) (ymd (suc x.year) 1 1))))
        ≡ Some (cond a (dated (signed_year x.year) x.month (suc x.day)) (cond b (dated (signed_year x.year) (suc x.month) 1) (dated (signed_year x.year +ℤ pos 1) 1 1)))
    go true b = refl
    go false true = refl
    go false false = rw (next_year x.year)

next_day : (z : ℤ) → is_day z ≡ true → day_count (z +ℤ pos 1) ≡ suc (day_count z)
next_day z e = next_count epoch 366 7304849 z (day_within z e)

-- where both days are in range, the next day's date is the date after
pub next_date : (z : ℤ) → is_day z ≡ true → is_day (z +ℤ pos 1) ≡ true → ymd_of (z +ℤ pos 1) ≡ date_after (ymd_of z)
unfolding ymd_of civil
next_date z e f = rw (e, f, next_day z e) (date_step (civil (day_count z)))

-- ---- the week

-- 1 January 1970
pub thursday : weekday_of (pos 0) ≡ Some Thursday
unfolding weekday_of between counted weekday_number
thursday = rw (is_day_lem (pos 0), epoch_is)

index_named : (k : ℕ) → k < 7 → index_of (named k) ≡ k
index_named = at_each (λ (k : ℕ). index_of (named k) ≡ k) 7 (omega arith)

weekday_on : (z : ℤ) (a : Weekday) → weekday_of z ≡ Some a → (is_day z ≡ true) × (index_of a ≡ weekday_number (day_count z))
unfolding weekday_of weekday_number
weekday_on z a e =
    let p = picked (is_day z) (λ q. no_clash (cc)) e in
    let q : named (weekday_number (day_count z)) ≡ a = cc in
    (p.0, ap index_of (sym q) ∙ index_named _ (small (day_count z)))
  where
    small : (n : ℕ) → (n + 5) % 7 < 7
    small n = omega arith

-- the weekday of the next day is the next weekday
pub next_weekday : (z : ℤ) (a b : Weekday) → weekday_of z ≡ Some a → weekday_of (z +ℤ pos 1) ≡ Some b → index_of b ≡ (index_of a + 1) % 7
unfolding weekday_number
next_weekday z a b e f =
    let p = weekday_on z a e in
    let q = weekday_on (z +ℤ pos 1) b f in
    q.1 ∙ ap weekday_number (next_day z p.0) ∙ step (day_count z) ∙ ap (λ (k : ℕ). (k + 1) % 7) (sym p.1)
  where
    step : (n : ℕ) → (suc n + 5) % 7 ≡ ((n + 5) % 7 + 1) % 7
    step n = omega arith
