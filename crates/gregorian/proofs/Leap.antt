-- The days before a year in closed form, and by whole eras of 400 years.
-- Assumes nothing.
use Prim.Native.Nat.{ℕ, zero, suc, ◌+◌, ◌-◌, ◌*◌, ◌/◌, ◌%◌, ◌≤◌, ◌<◌}
use mathlib.Core.Path.{◌≡◌, refl}
use mathlib.Core.Bool.{Bool, true, false, not, cond, ◌&&◌, ◌||◌}
use native.Mathlib.Omega.{arith}
use lib.Dec.{eqb, lit≤}
use borrow.Author.Tests.{eqb-true, eqb-false}
use Rattle.gregorian.specs.Calendar.{is_leap, leap_day, month_length, days_to_month, year_length, days_to_year}

-- the count of multiples of k below a year gains one at a multiple, and nothing elsewhere
at4 : (y : ℕ) → y % 4 ≡ 0 → (suc y + 3) / 4 ≡ (y + 3) / 4 + 1
at4 y h = omega arith

off4 : (y : ℕ) → (y % 4 ≡ 0 → ⊥) → (suc y + 3) / 4 ≡ (y + 3) / 4 + 0
off4 y h = omega arith

at100 : (y : ℕ) → y % 100 ≡ 0 → (suc y + 99) / 100 ≡ (y + 99) / 100 + 1
at100 y h = omega arith

off100 : (y : ℕ) → (y % 100 ≡ 0 → ⊥) → (suc y + 99) / 100 ≡ (y + 99) / 100 + 0
off100 y h = omega arith

at400 : (y : ℕ) → y % 400 ≡ 0 → (suc y + 399) / 400 ≡ (y + 399) / 400 + 1
at400 y h = omega arith

off400 : (y : ℕ) → (y % 400 ≡ 0 → ⊥) → (suc y + 399) / 400 ≡ (y + 399) / 400 + 0
off400 y h = omega arith

pub by100 : (y : ℕ) → y % 400 ≡ 0 → y % 100 ≡ 0
by100 y h = omega arith

pub by4 : (y : ℕ) → y % 100 ≡ 0 → y % 4 ≡ 0
by4 y h = omega arith

-- the counts' gains x, y, z over unknowns, so that omega sees no quotient
sum : (n a a' b b' c c' x y z : ℕ) → a' ≡ a + x → b' ≡ b + y → c' ≡ c + z → n + y ≡ x + z → n + a + b' + c ≡ a' + b + c'
sum n a a' b b' c c' x y z h k l m = omega arith

-- n days are what a year adds to the counts
Gains : ℕ → ℕ → Type 0
Gains y n = n + (y + 3) / 4 + (suc y + 99) / 100 + (y + 399) / 400 ≡ (suc y + 3) / 4 + (y + 99) / 100 + (suc y + 399) / 400

gains : (y : ℕ) (a b c : Bool) → eqb (y % 400) 0 ≡ a → eqb (y % 100) 0 ≡ b → eqb (y % 4) 0 ≡ c → Gains y (cond (a || (c && not b)) 1 0)
unfolding Gains
gains y true b c e f g =
    let h : y % 400 ≡ 0 = eqb-true (y % 400) 0 e in
    sum _ _ _ _ _ _ _ 1 1 1 (at4 y (by4 y (by100 y h))) (at100 y (by100 y h)) (at400 y h) refl
gains y false true true e f g =
    let h : y % 100 ≡ 0 = eqb-true (y % 100) 0 f in
    sum _ _ _ _ _ _ _ 1 1 0 (at4 y (by4 y h)) (at100 y h) (off400 y (eqb-false (y % 400) 0 e)) refl
gains y false true false e f g = absurd (eqb-false (y % 4) 0 g (by4 y (eqb-true (y % 100) 0 f)))
gains y false false true e f g =
    sum _ _ _ _ _ _ _ 1 0 0 (at4 y (eqb-true (y % 4) 0 g)) (off100 y (eqb-false (y % 100) 0 f)) (off400 y (eqb-false (y % 400) 0 e)) refl
gains y false false false e f g =
    sum _ _ _ _ _ _ _ 0 0 0 (off4 y (eqb-false (y % 4) 0 g)) (off100 y (eqb-false (y % 100) 0 f)) (off400 y (eqb-false (y % 400) 0 e)) refl

leap_gains : (y : ℕ) → Gains y (leap_day y)
unfolding leap_day is_leap
leap_gains y = gains y (eqb (y % 400) 0) (eqb (y % 100) 0) (eqb (y % 4) 0) refl refl refl

pub leap_le : (y : ℕ) → leap_day y ≤ 1
unfolding leap_day
leap_le y = go (is_leap y)
  where
    go : (b : Bool) → cond b 1 0 ≤ 1
    go true = lit≤ tt
    go false = lit≤ tt

year_length_lem : (y : ℕ) → year_length y ≡ 365 + leap_day y
unfolding year_length days_to_month month_length
year_length_lem y = omega arith

pub year_after : (y : ℕ) → days_to_year (suc y) ≡ days_to_year y + 365 + leap_day y
unfolding days_to_year
year_after y = omega (arith, year_length_lem y)

-- the days before a year, in one formula
days_to_year_lem : (y : ℕ) → days_to_year y + (y + 99) / 100 ≡ 365 * y + (y + 3) / 4 + (y + 399) / 400
unfolding days_to_year Gains
days_to_year_lem zero = refl
days_to_year_lem (suc y) = step y (leap_day y) _ _ _ _ _ _ (days_to_year y) (year_length y) (leap_gains y) (year_length_lem y) (days_to_year_lem y)
  where
    step : (y n a a' b b' c c' t u : ℕ) → n + a + b' + c ≡ a' + b + c' → u ≡ 365 + n → t + b ≡ 365 * y + a + c → (t + u) + b' ≡ 365 * suc y + a' + c'
    step y n a a' b b' c c' t u h k l = omega arith

-- and as one that computes at once
abbrev pub closed : ℕ → ℕ
closed y = 365 * y + (y + 3) / 4 + (y + 399) / 400 - (y + 99) / 100

pub is_closed : (y : ℕ) → days_to_year y ≡ closed y
is_closed y = go (days_to_year y) ((y + 99) / 100) (365 * y + (y + 3) / 4 + (y + 399) / 400) (days_to_year_lem y)
  where
    go : (a b c : ℕ) → a + b ≡ c → a ≡ c - b
    go a b c h = omega arith

-- the days of an era before its year r, which starts on 1 March
abbrev pub start : ℕ → ℕ
start r = r * 365 + r / 4 - r / 100

-- the days before the year that follows year r of era e
pub year_of_era : (e r : ℕ) → r < 400 → days_to_year (suc (e * 400 + r)) ≡ e * 146097 + start r + 366
year_of_era e r h =
    total (days_to_year (suc (e * 400 + r))) e r (e * 400 + r) _ _ _ _ _ _ (r / 4) (r / 100) (days_to_year_lem (suc (e * 400 + r)))
    (next4 (e * 400 + r)) (next100 (e * 400 + r)) (next400 (e * 400 + r)) refl (era4 e r h) (era100 e r h) (era400 e r h) (le100 r)
  where
    next4 : (y : ℕ) → (suc y + 3) / 4 ≡ y / 4 + 1
    next4 y = omega arith

    next100 : (y : ℕ) → (suc y + 99) / 100 ≡ y / 100 + 1
    next100 y = omega arith

    next400 : (y : ℕ) → (suc y + 399) / 400 ≡ y / 400 + 1
    next400 y = omega arith

    era4 : (e r : ℕ) → r < 400 → (e * 400 + r) / 4 ≡ e * 100 + r / 4
    era4 e r h = omega arith

    era100 : (e r : ℕ) → r < 400 → (e * 400 + r) / 100 ≡ e * 4 + r / 100
    era100 e r h = omega arith

    era400 : (e r : ℕ) → r < 400 → (e * 400 + r) / 400 ≡ e
    era400 e r h = omega arith

    le100 : (r : ℕ) → r / 100 ≤ r
    le100 r = omega arith

    total : (t e r y a b c a' b' c' p q : ℕ) → t + b' ≡ 365 * suc y + a' + c' → a' ≡ a + 1 → b' ≡ b + 1 → c' ≡ c + 1 → y ≡ e * 400 + r → a ≡ e * 100 + p → b ≡ e * 4 + q → c ≡ e → q ≤ r → t ≡ e * 146097 + (r * 365 + p - q) + 366
    total t e r y a b c a' b' c' p q h i j k l m n o u = omega arith
