-- Numbers and dates are inverse to each other, and a number's year lies between the years' first days.
-- Assumes nothing.
use Prim.Native.Nat.{ℕ, zero, suc, ◌+◌, ◌-◌, ◌≤◌, ◌<◌}
use mathlib.Core.Bool.{Bool, true, false, ◌&&◌, false≢true}
use mathlib.Core.Path.{◌≡◌, refl, ap, subst}
use mathlib.Core.Logic.{◌⊎◌, inl, inr}
use native.Mathlib.Omega.{arith}
use native.Mathlib.Nat.{le_trans, le_of_eq}
use native.Mathlib.Decide.{dec_le, dec_lt}
use borrow.Author.Tests.{lt-ltb, le-ltb, le-leb, leb-true}
use lib.Dec.{leb}
use lib.ListN.{get_or-eq_default}
use Rattle.gregorian.specs.declared.Civil.{Civil}
use Rattle.gregorian.specs.Calendar.{leap_day, month_lengths, month_length, days_to_month, year_length, days_to_year, is_date, day_number, ymd, day_after, civil}
use Rattle.gregorian.proofs.Below.{Each, at_each}
use Rattle.gregorian.proofs.Leap.{year_after}

-- what holds of each month holds of every month; P counts them from 0
pub months : (P : ℕ → Type 0) → Each (λ (k : ℕ). P (suc k)) 12 → (m : ℕ) → 1 ≤ m → m ≤ 12 → P m
months P e zero l h = absurd (omega arith)
months P e (suc k) l h = at_each (λ (k : ℕ). P (suc k)) 12 e k h

-- ---- the days that there are

pub record Valid (y m d : ℕ) : Type 0 where
  pub from_january : 1 ≤ m
  pub to_december : m ≤ 12
  pub from_first : 1 ≤ d
  pub to_last : d ≤ month_length y m

pub no_month : (y m : ℕ) → (m < 1) ⊎ (12 < m) → month_length y m ≡ 0
unfolding month_length
no_month y m (inl h) = let e : m ≡ 0 = omega arith in rw e
no_month y m (inr h) = get_or-eq_default (month_lengths (leap_day y)) 0 h

pub and_both : (a b : Bool) → (a && b) ≡ true → (a ≡ true) × (b ≡ true)
and_both true b e = (refl, e)
and_both false b e = absurd (false≢true e)

pub valid : (y m d : ℕ) → is_date y m d ≡ true → Valid y m d
unfolding is_date
valid y m d e =
    let t = and_both (leb 1 d) (leb d (month_length y m)) e in
    let f = leb-true 1 d t.0 in
    let l = leb-true d (month_length y m) t.1 in
    record { from_january = from (dec_le 1 m) f l; to_december = upto (dec_le m 12) f l; from_first = f; to_last = l }
  where
    none : (m < 1) ⊎ (12 < m) → 1 ≤ d → d ≤ month_length y m → ⊥
    none h f l = omega (arith, no_month y m h)

    from : Dec (1 ≤ m) → 1 ≤ d → d ≤ month_length y m → 1 ≤ m
    from (yes h) f l = h
    from (no h) f l = absurd (none (inl (omega arith)) f l)

    upto : Dec (m ≤ 12) → 1 ≤ d → d ≤ month_length y m → m ≤ 12
    upto (yes h) f l = h
    upto (no h) f l = absurd (none (inr (omega arith)) f l)

pub is_date_lem : (y m d : ℕ) → Valid y m d → is_date y m d ≡ true
unfolding is_date
is_date_lem y m d v = rw (le-leb 1 d v.from_first, le-leb d (month_length y m) v.to_last)

-- ---- a number is that of its date

-- x is the date of day n
pub record Dated (n : ℕ) (x : Civil) : Type 0 where
  pub valid : Valid x.year x.month x.day
  pub number : day_number x.year x.month x.day ≡ n

month_some : (y m : ℕ) → 1 ≤ m → m ≤ 12 → 1 ≤ month_length y m
unfolding month_length
month_some y = months (λ (m : ℕ). 1 ≤ month_length y m) (omega arith)

same_month : (n y m d : ℕ) → d < month_length y m → Dated n (ymd y m d) → Dated (suc n) (ymd y m (suc d))
unfolding day_number
same_month n y m d h g = omega (arith, g.valid.from_first)

next_month : (n y m d : ℕ) → month_length y m ≤ d → m < 12 → Dated n (ymd y m d) → Dated (suc n) (ymd y (suc m) 1)
unfolding day_number days_to_month
next_month n y m d h k g = let l = month_some y (suc m) (omega arith) k in omega arith

next_year : (n y d : ℕ) → month_length y 12 ≤ d → Dated n (ymd y 12 d) → Dated (suc n) (ymd (suc y) 1 1)
unfolding day_number days_to_month month_length
next_year n y d h g = omega (arith, year_after y)

next_day : (n : ℕ) (x : Civil) → Dated n x → Dated (suc n) (day_after x)
unfolding day_after
next_day n x g = go (dec_lt x.day (month_length x.year x.month)) (dec_lt x.month 12)
  where
    not_below : (a b : ℕ) → (a < b → ⊥) → b ≤ a
    not_below a b h = omega arith

    go : Dec (x.day < month_length x.year x.month) → Dec (x.month < 12) → Dated (suc n) (day_after x)
    go (yes h) k = simp (lt-ltb x.day (month_length x.year x.month) h) (same_month n x.year x.month x.day h g)
    go (no h) (yes k) =
        let l = not_below x.day (month_length x.year x.month) h in
        simp (le-ltb x.day (month_length x.year x.month) l, lt-ltb x.month 12 k) (next_month n x.year x.month x.day l k g)
    go (no h) (no k) =
        let l = not_below x.day (month_length x.year x.month) h in
        let e : x.month ≡ 12 = omega (arith, g.valid.to_december) in
        simp (le-ltb x.day (month_length x.year x.month) l, le-ltb x.month 12 (not_below x.month 12 k))
        (next_year n x.year x.day (subst (λ (m : ℕ). month_length x.year m ≤ x.day) e l) (subst (λ (m : ℕ). Dated n (ymd x.year m x.day)) e g))

-- every number is that of its date
pub number_civil : (n : ℕ) → Dated n (civil n)
unfolding civil day_number days_to_year days_to_month month_length
number_civil zero = omega arith
number_civil (suc n) = next_day n (civil n) (number_civil n)

-- ---- a date is that of its number

-- what rises at each step, and a number between two of its values
module _ (f : ℕ → ℕ) (up : (k : ℕ) → f k ≤ f (suc k)) where
  rises : (a b : ℕ) → a ≤ b → f a ≤ f b
  rises a zero h = let e : a ≡ 0 = omega arith in le_of_eq (ap f e)
  rises a (suc b) h = go (dec_le a b) (rises a b)
    where
      go : Dec (a ≤ b) → (a ≤ b → f a ≤ f b) → f a ≤ f (suc b)
      go (yes k) r = le_trans (r k) (up b)
      go (no k) r = let e : a ≡ suc b = omega arith in le_of_eq (ap f e)

  not_after : (a b x : ℕ) → f a ≤ x → x < f (suc b) → a ≤ b
  not_after a b x h k = go (dec_le a b)
    where
      go : Dec (a ≤ b) → a ≤ b
      go (yes l) = l
      go (no l) = let r = rises (suc b) a (omega arith) in absurd (omega arith)

month_up : (y m : ℕ) → days_to_month y m ≤ days_to_month y (suc m)
unfolding days_to_month
month_up y m = omega arith

year_up : (y : ℕ) → days_to_year y ≤ days_to_year (suc y)
unfolding days_to_year
year_up y = omega arith

-- a month's days end with the month
month_end_lem : (y m d : ℕ) → Valid y m d → days_to_month y m + (d - 1) < days_to_month y (suc m)
unfolding days_to_month
month_end_lem y m d v = omega (arith, v.from_first, v.to_last)

-- and a year's with the year
year_end : (y m d : ℕ) → Valid y m d → day_number y m d < days_to_year (suc y)
unfolding day_number days_to_year year_length
year_end y m d v =
    let r = rises (days_to_month y) (month_up y) (suc m) 13 (omega (arith, v.to_december)) in
    omega (arith, month_end_lem y m d v)

year_start : (y m d : ℕ) → days_to_year y ≤ day_number y m d
unfolding day_number
year_start y m d = omega arith

same_in_year : (y m d m' d' : ℕ) → Valid y m d → Valid y m' d' → days_to_month y m + (d - 1) ≡ days_to_month y m' + (d' - 1) → ymd y m d ≡ ymd y m' d'
same_in_year y m d m' d' v w e =
    let a = not_after (days_to_month y) (month_up y) m m' (days_to_month y m + (d - 1)) (omega arith) (omega (arith, month_end_lem y m' d' w)) in
    let b = not_after (days_to_month y) (month_up y) m' m (days_to_month y m + (d - 1)) (omega arith) (month_end_lem y m d v) in
    let p : m ≡ m' = omega arith in
    let q = ap (days_to_month y) p in
    let r : d ≡ d' = omega (arith, v.from_first, w.from_first) in
    cc

-- a number has one date
pub same_date : (y m d y' m' d' : ℕ) → Valid y m d → Valid y' m' d' → day_number y m d ≡ day_number y' m' d' → ymd y m d ≡ ymd y' m' d'
unfolding day_number
same_date y m d y' m' d' v w e =
    let a = not_after days_to_year year_up y y' (day_number y m d) (year_start y m d) (omega (arith, year_end y' m' d' w)) in
    let b = not_after days_to_year year_up y' y (day_number y m d) (omega (arith, year_start y' m' d')) (year_end y m d v) in
    go y' (omega arith) w e
  where
    go : (z : ℕ) → y ≡ z → Valid z m' d' → day_number y m d ≡ day_number z m' d' → ymd y m d ≡ ymd z m' d'
    go z p w e =
        let q = rw (← p) at e in
        rw (← p) (same_in_year y m d m' d' v (rw p w) (omega arith))

-- the date of a day's number is the day
pub civil_number : (y m d : ℕ) → Valid y m d → civil (day_number y m d) ≡ ymd y m d
civil_number y m d v =
    let g = number_civil (day_number y m d) in
    same_date _ _ _ y m d g.valid v g.number

-- ---- the years of the days

pub number_from : (a y m d : ℕ) → a ≤ y → days_to_year a ≤ day_number y m d
number_from a y m d h = le_trans (rises days_to_year year_up a y h) (year_start y m d)

pub number_before : (y m d b : ℕ) → Valid y m d → y < b → day_number y m d < days_to_year b
number_before y m d b v h = let r = rises days_to_year year_up (suc y) b h in omega (arith, year_end y m d v)

pub year_from : (y n : ℕ) → days_to_year y ≤ n → y ≤ (civil n).year
year_from y n h =
    let x = civil n in
    let g = number_civil n in
    not_after days_to_year year_up y x.year n h (omega (arith, year_end x.year x.month x.day g.valid, g.number))

pub year_before : (y n : ℕ) → n < days_to_year (suc y) → (civil n).year ≤ y
year_before y n h =
    let x = civil n in
    let g = number_civil n in
    not_after days_to_year year_up x.year y n (omega (arith, year_start x.year x.month x.day, g.number)) h
