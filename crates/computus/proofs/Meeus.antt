-- The algorithm gives the Easter of the definition at each year: a test that the checker computes, over 20,000 years.
-- Assumes nothing.
use Rattle.std.specs.Prelude.{Some, None}
use Prim.Native.Nat.{ℕ, ◌+◌, ◌-◌, ◌*◌, ◌/◌, ◌%◌, ◌<◌}
use mathlib.Core.Path.{◌≡◌, refl, ◌∙◌}
use mathlib.Core.Bool.{Bool, true, false, ◌&&◌}
use native.Mathlib.Omega.{arith}
use lib.Dec.{T, eqb}
use lib.IntN.{ℤ, pos, ◌+ℤ◌}
use borrow.Author.Tests.{eqb-true}
use Rattle.integer.specs.Linear.{linear, sum, dif, abs, apart}
use Rattle.gregorian.specs.Count.{counted, signed}
use Rattle.gregorian.specs.Calendar.{is_leap, leap_day, month_length, days_to_month, is_date, day_number, weekday_number}
use Rattle.gregorian.proofs.Below.{at_below}
use Rattle.gregorian.proofs.Leap.{closed, is_closed}
use Rattle.gregorian.proofs.Laws.{and_both}
use Rattle.gregorian.proofs.Counts.{Within, within, is_true}
use Rattle.dates.specs.Date.{is_year, year_count, is_day, from_ymd}
use Rattle.dates.proofs.Counts.{year_within}
use Rattle.dates.proofs.Laws.{day_of_date}
use Rattle.computus.specs.Easter.{golden, century, solar, lunar, age, raised, epact, from_equinox, full_moon, sunday_after, easter_of}

-- ---- the algorithm, as the code computes it
abbrev h_of : ℕ → ℕ
h_of y = (19 * (y % 19) + y / 100 - y / 100 / 4 - (y / 100 - (y / 100 + 8) / 25 + 1) / 3 + 15) % 30

abbrev l_of : ℕ → ℕ → ℕ
l_of y h = (32 + 2 * (y / 100 % 4) + 2 * (y % 100 / 4) - h - y % 100 % 4) % 7

abbrev q_of : ℕ → ℕ → ℕ → ℕ
q_of y h l = h + l - 7 * ((y % 19 + 11 * h + 22 * l) / 451) + 114

abbrev pub meeus : ℕ → ℕ
meeus y = q_of y (h_of y) (l_of y (h_of y))

-- ---- the test

-- Month q / 31 and day q % 31 + 1 are those of the definition's Sunday, with t days before year k and the full moon on day n of March.
passes : ℕ → ℕ → ℕ → ℕ → Bool
passes t k q n =
    is_date k (q / 31) (q % 31 + 1) && eqb (t + days_to_month k (q / 31) + (q % 31 + 1 - 1)) (sunday_after (t + days_to_month k 3 + (n - 1)))

-- year k counted from year -10000
right : ℕ → Bool
right k = passes (closed k) k (meeus (k + 5690000)) (full_moon (k + 5690000))

all_right : (k : ℕ) → k < 20000 → T (right k)
unfolding right passes is_date days_to_month month_length leap_day is_leap weekday_number golden century solar lunar age raised epact from_equinox full_moon sunday_after
all_right = at_below right 20000 tt

-- ---- what it says

at_year : (k : ℕ) → k < 20000 →
    (is_date k (meeus (k + 5690000) / 31) (meeus (k + 5690000) % 31 + 1) ≡ true)
    × (day_number k (meeus (k + 5690000) / 31) (meeus (k + 5690000) % 31 + 1) ≡ sunday_after (day_number k 3 (full_moon (k + 5690000))))
unfolding right passes day_number
at_year k h =
    let t = and_both _ _ (is_true (right k) (all_right k h)) in
    (t.0, rw (is_closed k) (eqb-true _ _ t.1))

-- the two counts of a year
shifted : (z : ℤ) → is_year z ≡ true → counted 5700000 z ≡ year_count z + 5690000
unfolding counted signed
shifted z e =
    let w = year_within z e in
    let x = z +ℤ pos 10000 in
    let x' = z +ℤ pos 5700000 in
    omega (linear, w.back, dif (pos (year_count z)) (pos 10000), sum z (pos 10000), sum z (pos 5700000), abs x, apart x, abs x', apart x')

pub meeus_is : (z : ℤ) → is_year z ≡ true → from_ymd z (meeus (counted 5700000 z) / 31) (meeus (counted 5700000 z) % 31 + 1) ≡ easter_of z
unfolding from_ymd easter_of
meeus_is z e =
    let w = year_within z e in
    let a = at_year (year_count z) (omega (arith, w.upto)) in
    rw (e, shifted z e, a.0, a.1)

-- Easter Sunday is a day in range
pub easter_day : (y e : ℤ) → easter_of y ≡ Some e → is_day e ≡ true
unfolding easter_of
easter_day y e q = go (is_year y) refl
  where
    go : (b : Bool) → is_year y ≡ b → is_day e ≡ true
    go true h = day_of_date y _ _ e (meeus_is y h ∙ q)
    go false h = let c : None ≡ Some e = rw h at q in let z : ◌≡◌ {A = ℕ} 0 1 = cc in absurd (omega arith)

-- the year in range, as the code counts it
pub easter_year : (z : ℤ) → is_year z ≡ true → Within 5700000 5690001 5709999 z
unfolding is_year signed
easter_year z e = within 5700000 5690001 5709999 z e
