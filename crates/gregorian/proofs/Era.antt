-- The year of an era in which a day of the era is, by the code's quotients.
-- Assumes nothing.
use Prim.Native.Nat.{ℕ, zero, suc, ◌+◌, ◌-◌, ◌*◌, ◌/◌, ◌≤◌, ◌<◌, zero-le, suc-le-suc}
use mathlib.Core.Path.{◌≡◌, refl, ap, ◌∙◌}
use mathlib.Core.Bool.{Bool}
use native.Mathlib.Omega.{arith}
use native.Mathlib.Decide.{ℕ_discrete, dec_le}
use lib.Dec.{eqb, eqb→eq, lit<}
use Rattle.gregorian.specs.Calendar.{leap_day, days_to_year}
use Rattle.gregorian.proofs.Below.{at_below}
use Rattle.gregorian.proofs.Leap.{start, year_after, year_of_era}

-- the year, as the code computes it
abbrev pub year_of : ℕ → ℕ
year_of d = (d - d / 1460 + d / 36524 - d / 146096) / 365

-- at the first and at the last day of each year it is that year: two tests that the checker computes
at_first : ℕ → Bool
at_first r = eqb (year_of (start r)) r

at_last : ℕ → Bool
at_last r = eqb (year_of (start (suc r) - 1)) r

first_day_lem : (r : ℕ) → r < 400 → year_of (start r) ≡ r
unfolding at_first
first_day_lem r h = eqb→eq (year_of (start r)) r (at_below at_first 400 tt r h)

last_day_lem : (r : ℕ) → r < 400 → year_of (start (suc r) - 1) ≡ r
unfolding at_last
last_day_lem r h = eqb→eq (year_of (start (suc r) - 1)) r (at_below at_last 400 tt r h)

-- and it never falls
year_mono : (a b : ℕ) → a ≤ b → b < 146097 → year_of a ≤ year_of b
year_mono a b h k = by365 _ _ (sums a b _ _ _ _ _ _ (le_div a) (by1460 a b h) (by36524 a b h k) (le_quotients a k h))
  where
    le_div : (d : ℕ) → d / 1460 ≤ d
    le_div d = omega arith

    by1460 : (a b : ℕ) → a ≤ b → b / 1460 + a ≤ a / 1460 + b
    by1460 a b h = omega arith

    by36524 : (a b : ℕ) → a ≤ b → b < 146097 → a / 36524 + b / 146096 ≤ b / 36524 + a / 146096
    by36524 a b h k = omega arith

    le_quotients : (a : ℕ) → b < 146097 → a ≤ b → a / 146096 ≤ a / 36524
    le_quotients a k h = omega arith

    sums : (a b p p' q q' r r' : ℕ) → p ≤ a → p' + a ≤ p + b → q + r' ≤ q' + r → r ≤ q → a - p + q - r ≤ b - p' + q' - r'
    sums a b p p' q q' r r' f g h k = omega arith

    by365 : (x y : ℕ) → x ≤ y → x / 365 ≤ y / 365
    by365 x y h = omega arith

-- r is the year of the era in which day d is; the era's last year has its leap day as the era's last day
pub record EraYear (d r : ℕ) : Type 0 where
  pub below : r < 400
  pub first : start r ≤ d
  pub last : (r ≡ 399 → ⊥) → d < start (suc r)

not_last : (r : ℕ) → r < 400 → (r ≡ 399 → ⊥) → suc r < 400
not_last r h n = omega arith

pub era_year : (d : ℕ) → d < 146097 → EraYear d (year_of d)
era_year d h = record { below = small; first = from (year_of d) small refl; last = upto }
  where
    small : year_of d < 400
    small = suc-le-suc (year_mono d 146096 (omega arith) (lit< tt))

    clash : (x y r : ℕ) → x ≤ y → suc r ≤ x → y ≡ r → ⊥
    clash x y r h k l = omega arith

    before : (a d : ℕ) → (a ≤ d → ⊥) → (d < a) × (d ≤ a - 1)
    before a d h = omega arith

    in_era : (r : ℕ) → r < 400 → start r - 1 < 146097
    in_era r h = omega arith

    from : (r : ℕ) → r < 400 → year_of d ≡ r → start r ≤ d
    from zero l e = zero-le
    from (suc r) l e = go (dec_le (start (suc r)) d)
      where
        go : Dec (start (suc r) ≤ d) → start (suc r) ≤ d
        go (yes k) = k
        go (no k) =
            absurd (clash _ _ r (year_mono d (start (suc r) - 1) (before (start (suc r)) d k).1 (in_era (suc r) l)) (omega arith) (last_day_lem r (omega arith)))

    upto : (year_of d ≡ 399 → ⊥) → d < start (suc (year_of d))
    upto n = go (dec_le (start (suc (year_of d))) d)
      where
        go : Dec (start (suc (year_of d)) ≤ d) → d < start (suc (year_of d))
        go (yes k) =
            let e = first_day_lem (suc (year_of d)) (not_last (year_of d) small n) in
            absurd (clash (year_of (start (suc (year_of d)))) (year_of d) (year_of d) (year_mono _ d k h) (omega arith) refl)
        go (no k) = (before (start (suc (year_of d))) d k).0

-- the day of the year is one of the year's, with a leap day where the next February has one
pub day_of_year : (e d r : ℕ) → d < 146097 → EraYear d r → d - start r < 365 + leap_day (suc (e * 400 + r))
day_of_year e d r h k = go (ℕ_discrete r 399)
  where
    sums : (t t' l E s s' d : ℕ) → t' ≡ t + 365 + l → t ≡ E + s + 366 → t' ≡ E + s' + 366 → d < s' → s ≤ d → d - s < 365 + l
    sums t t' l E s s' d a b c f g = omega arith

    by : (s' : ℕ) → days_to_year (suc (suc (e * 400 + r))) ≡ e * 146097 + s' + 366 → d < s' → d - start r < 365 + leap_day (suc (e * 400 + r))
    by s' p l = sums _ _ _ (e * 146097) (start r) s' d (year_after (suc (e * 400 + r))) (year_of_era e r k.below) p l k.first

    same : (e r : ℕ) → suc (e * 400 + r) ≡ e * 400 + suc r
    same e r = omega arith

    era_end : (e : ℕ) → suc e * 146097 + 0 + 366 ≡ e * 146097 + 146097 + 366
    era_end e = omega arith

    era_next : (e r : ℕ) → r ≡ 399 → suc (e * 400 + r) ≡ suc e * 400 + 0
    era_next e r h = omega arith

    go : Dec (r ≡ 399) → d - start r < 365 + leap_day (suc (e * 400 + r))
    go (yes q) = by 146097 (ap (λ (n : ℕ). days_to_year (suc n)) (era_next e r q) ∙ year_of_era (suc e) 0 (lit< tt) ∙ era_end e) h
    go (no n) =
        by (start (suc r)) (ap (λ (n : ℕ). days_to_year (suc n)) (same e r) ∙ year_of_era e (suc r) (not_last r k.below n)) (k.last n)
