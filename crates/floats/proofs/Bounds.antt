-- Rounding to f64 keeps a bound that is itself an f64: whole numbers up to 2 ^ 53 below, and 2 ^ 63 above. Assumes nothing.
use Rattle.std.proofs.Common.{◌≡◌, ℕ, ◌*◌, ◌^◌, ◌<◌, ◌≤◌, Bool, true, false, T, ltb, sym, refl, ◌∙◌, le_trans, le_of_eq, lt_of_le_of_lt, mul-le-mul_right, mul-one, lit<, lit≤, ltb-false, ltb-true, le-ltb}
use lib.Ieee.{Float, nan, inf, fin, binary64, round, units, le, lt, eq}
use lib.Ieee.Exact.{HasValue, round_exact, units_val}
use lib.Ieee.Fits.{round_is}
use lib.Ieee.Back.{round_whole}
use lib.Ieee.Order.{drop, kept, round_mono}
use lib.Ieee.Scale.{grid, overflow}
use Rattle.floats.proofs.Comparing.{order}

-- ---- a / c rounded is `grid binary64 a c` units of 2 ^ -1074, or an infinity
pub round_value : (s : Bool) (a c : ℕ) → grid binary64 a c < overflow binary64 → HasValue (round binary64 s a c) s (grid binary64 a c) (2 ^ 1074)
round_value s a c h =
    rw (round_is binary64 s a c) (units_val binary64 s (kept 53 (a * 2 ^ 1074) c) (drop 53 (a * 2 ^ 1074) c) h)

pub round_overflow : (s : Bool) (a c : ℕ) → overflow binary64 ≤ grid binary64 a c → round binary64 s a c ≡ inf s
unfolding units
round_overflow s a c h = round_is binary64 s a c ∙ rw (le-ltb (grid binary64 a c) (overflow binary64) h)

pub at_least_whole : (n a c : ℕ) → 0 < c → n ≤ 2 ^ 53 → n * c ≤ a → n * 2 ^ 1074 ≤ grid binary64 a c
at_least_whole n a c some h l = go (ltb (grid binary64 a c) (overflow binary64)) refl
  where
    go : (b : Bool) → ltb (grid binary64 a c) (overflow binary64) ≡ b → n * 2 ^ 1074 ≤ grid binary64 a c
    go true k =
        le_trans
        (order (round binary64 false n 1) (round binary64 false a c) n 1 (grid binary64 a c) (2 ^ 1074)
        (round_whole binary64 false n h)
        (round_value false a c (ltb-true (grid binary64 a c) (overflow binary64) k))
        (round_mono binary64 n 1 a c (lit< tt) some (le_trans l (le_of_eq (sym (mul-one a))))))
        (le_of_eq (mul-one (grid binary64 a c)))
    go false k =
        le_trans (mul-le-mul_right (2 ^ 1074) h)
        (le_trans (lit≤ {m = 2 ^ 53 * 2 ^ 1074} {n = 2 ^ 2098} tt) (ltb-false (grid binary64 a c) (overflow binary64) k))

-- ---- 2 ^ 63, the largest magnitude of an `i64`
top_exact : HasValue (round binary64 false (2 ^ 63) 1) false (2 ^ 63) 1
top_exact = round_exact binary64 false (2 ^ 63) 1 1 1137 (lit< tt) (lit< tt) (lit< {m = 1 * 2 ^ 1137} {n = 2 ^ 2098} tt) refl

inf_above : (y : Float) (s : Bool) (a c : ℕ) → HasValue y s a c → T (le (inf false) y) → ⊥
unfolding le lt eq
inf_above nan s a c v h = v
inf_above (inf t) s a c v h = v
inf_above (fin t m e) s a c v h = h

pub at_most_top : (a c : ℕ) → 0 < c → a ≤ 2 ^ 63 * c → grid binary64 a c ≤ 2 ^ 63 * 2 ^ 1074
at_most_top a c some l = go (ltb (grid binary64 a c) (overflow binary64)) refl
  where
    below : T (le (round binary64 false a c) (round binary64 false (2 ^ 63) 1))
    below = round_mono binary64 a c (2 ^ 63) 1 some (lit< tt) (le_trans (le_of_eq (mul-one a)) l)

    go : (b : Bool) → ltb (grid binary64 a c) (overflow binary64) ≡ b → grid binary64 a c ≤ 2 ^ 63 * 2 ^ 1074
    go true k =
        le_trans (le_of_eq (sym (mul-one (grid binary64 a c))))
        (order (round binary64 false a c) (round binary64 false (2 ^ 63) 1) (grid binary64 a c) (2 ^ 1074) (2 ^ 63) 1
        (round_value false a c (ltb-true (grid binary64 a c) (overflow binary64) k))
        top_exact
        below)
    go false k =
        absurd
        (inf_above (round binary64 false (2 ^ 63) 1) false (2 ^ 63) 1 top_exact
        (rw (round_overflow false a c (ltb-false (grid binary64 a c) (overflow binary64) k)) at below))

-- so up to there nothing becomes an infinity
pub top_value : (s : Bool) (a c : ℕ) → 0 < c → a ≤ 2 ^ 63 * c → HasValue (round binary64 s a c) s (grid binary64 a c) (2 ^ 1074)
top_value s a c some l =
    round_value s a c (lt_of_le_of_lt (at_most_top a c some l) (lit< {m = 2 ^ 63 * 2 ^ 1074} {n = 2 ^ 2098} tt))
