-- The months of a year that starts on 1 March against the calendar's, as the code's sums need them.
-- Assumes nothing.
use Prim.Native.Nat.{ℕ, suc, ◌+◌, ◌-◌, ◌*◌, ◌/◌, ◌%◌, ◌≤◌, ◌<◌}
use mathlib.Core.Path.{◌≡◌, sym, ap, ◌∙◌}
use native.Mathlib.Omega.{arith}
use native.Mathlib.Nat.{div-add-mod'}
use Rattle.gregorian.specs.Calendar.{leap_day, month_length, days_to_month, days_to_year, day_number, ymd, civil}
use Rattle.gregorian.proofs.Below.{at_each}
use Rattle.gregorian.proofs.Leap.{start, leap_le, year_after, year_of_era}
use Rattle.gregorian.proofs.Laws.{months, civil_number}
use Rattle.gregorian.proofs.Era.{EraYear}

pub month_most : (y m : ℕ) → 1 ≤ m → m ≤ 12 → month_length y m ≤ 31
unfolding month_length
month_most y = let e = leap_le y in months (λ (m : ℕ). month_length y m ≤ 31) (omega arith)

first_march : (y : ℕ) → day_number y 3 1 + 306 ≡ days_to_year (suc y)
unfolding day_number days_to_month month_length
first_march y = omega (arith, year_after y)

-- ---- from a date to its number

-- the code's sum, for a month with o days of the year before it
pub march_number : (y o d : ℕ) → 1 ≤ d → y / 400 * 146097 + (start (y % 400) + (o + d - 1)) + 60 ≡ day_number y 3 1 + o + (d - 1)
march_number y o d h =
    sums (y / 400) (start (y % 400)) o d _ _ (ap (λ (n : ℕ). days_to_year (suc n)) (sym (div-add-mod' y 400)) ∙ year_of_era (y / 400) (y % 400) (rest y)) (first_march y) h
  where
    rest : (y : ℕ) → y % 400 < 400
    rest y = omega arith

    sums : (e s o d t f : ℕ) → t ≡ e * 146097 + s + 366 → f + 306 ≡ t → 1 ≤ d → e * 146097 + (s + (o + d - 1)) + 60 ≡ f + o + (d - 1)
    sums e s o d t f h k l = omega arith

pub number_late : (y m d : ℕ) → 1 ≤ m → m ≤ 12 → 2 < m → day_number y 3 1 + (153 * (m - 3) + 2) / 5 + (d - 1) ≡ day_number y m d
unfolding day_number days_to_month month_length
number_late y m d = months (λ (m : ℕ). 2 < m → day_number y 3 1 + (153 * (m - 3) + 2) / 5 + (d - 1) ≡ day_number y m d) (omega arith) m

pub number_early : (y m d : ℕ) → 1 ≤ m → m ≤ 2 → day_number y 3 1 + (153 * (m + 9) + 2) / 5 + (d - 1) ≡ day_number (suc y) m d
unfolding day_number days_to_month month_length
number_early y m d l h =
    let e = year_after y in
    at_each (λ (k : ℕ). 1 ≤ k → day_number y 3 1 + (153 * (k + 9) + 2) / 5 + (d - 1) ≡ day_number (suc y) k d) 3 (omega arith) m (omega arith) l

-- ---- and back

one_date : (n y m d : ℕ) → 1 ≤ m → m ≤ 12 → 1 ≤ d → (d ≤ month_length y m) × (day_number y m d ≡ n) → ymd y m d ≡ civil n
one_date n y m d f t l g =
    sym (civil_number y m d (record { from_january = f; to_december = t; from_first = l; to_last = g.0 })) ∙ ap civil g.1

-- day doy is day day_of doy m of month m
abbrev day_of : ℕ → ℕ → ℕ
day_of doy m = doy - (153 * m + 2) / 5 + 1

abbrev Within : ℕ → ℕ → Type 0
Within doy m = (153 * m ≤ 5 * doy + 2) × (5 * doy + 2 < 153 * m + 153)

month_of : (doy m : ℕ) → doy < 366 → m ≡ (5 * doy + 2) / 153 → (m < 12) × Within doy m
month_of doy m h e = omega arith

-- months 0 to 9 are March to December
Late : ℕ → ℕ → ℕ → Type 0
Late y doy m =
    Within doy m →
    (day_of doy m ≤ month_length y (m + 3)) × (day_number y (m + 3) (day_of doy m) ≡ day_number y 3 1 + doy)

late : (y doy m : ℕ) → m < 10 → Late y doy m
unfolding Late day_number days_to_month month_length
late y doy = at_each (Late y doy) 10 (omega arith)

pub date_late : (y doy m : ℕ) → doy < 365 + leap_day (suc y) → m ≡ (5 * doy + 2) / 153 → m < 10 → ymd y (m + 3) (day_of doy m) ≡ civil (day_number y 3 1 + doy)
unfolding Late
date_late y doy m h e k =
    let w = month_of doy m (omega (arith, leap_le (suc y))) e in
    one_date _ y (m + 3) (day_of doy m) (omega arith) (omega arith) (omega arith) (late y doy m k w.1)

-- months 10 and 11 are January and February of the next year
Early : ℕ → ℕ → ℕ → Type 0
Early y doy m =
    (10 ≤ m) × (doy < 365 + leap_day (suc y)) × Within doy m →
    (day_of doy m ≤ month_length (suc y) (m - 9)) × (day_number (suc y) (m - 9) (day_of doy m) ≡ day_number y 3 1 + doy)

early : (y doy m : ℕ) → m < 12 → Early y doy m
unfolding Early day_number days_to_month month_length
early y doy = let e = year_after y in at_each (Early y doy) 12 (omega arith)

pub date_early : (y doy m : ℕ) → doy < 365 + leap_day (suc y) → m ≡ (5 * doy + 2) / 153 → 10 ≤ m → ymd (suc y) (m - 9) (day_of doy m) ≡ civil (day_number y 3 1 + doy)
unfolding Early
date_early y doy m h e k =
    let w = month_of doy m (omega (arith, leap_le (suc y))) e in
    one_date _ (suc y) (m - 9) (day_of doy m) (omega arith) (omega arith) (omega arith) (early y doy m w.0 (k, h, w.1))

-- day n is day d of era e, in year r of it
pub number_of_era : (n e d r : ℕ) → 60 ≤ n → e ≡ (n - 60) / 146097 → d ≡ (n - 60) % 146097 → EraYear d r → day_number (e * 400 + r) 3 1 + (d - start r) ≡ n
number_of_era n e d r l p q k = sums n e d (start r) _ _ (year_of_era e r k.below) (first_march (e * 400 + r)) k.first (whole n e d l p q)
  where
    whole : (n e d : ℕ) → 60 ≤ n → e ≡ (n - 60) / 146097 → d ≡ (n - 60) % 146097 → n ≡ e * 146097 + d + 60
    whole n e d l p q = omega arith

    sums : (n e d s t f : ℕ) → t ≡ e * 146097 + s + 366 → f + 306 ≡ t → s ≤ d → n ≡ e * 146097 + d + 60 → f + (d - s) ≡ n
    sums n e d s t f a b c g = omega arith
