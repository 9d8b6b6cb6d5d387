-- The laws of indices and shares: no ratio is a NaN or an infinity, a share lies in 0..1, and -0 stays -0. Assumes nothing.
use Rattle.std.specs.Prelude.{Some}
use Rattle.std.proofs.Common.{◌≡◌, ℕ, zero, suc, ◌*◌, ◌^◌, ◌<◌, ◌≤◌, Bool, true, false, cond, T, ℤ, pos, negsuc, nat_abs, refl, ap, lt_of_lt_of_le, mul-le-mul_right, zero-lt-suc, mul-pos, arith, lit<, lit≤, pow_pos, w64, SFits, ne_eqb}
use lib.Ieee.{Float, nan, inf, fin, binary64, up, down, unlike, round, div, lt, le, eq, is_nan, of_int, to_bits}
use lib.Ieee.Exact.{HasValue}
use lib.Ieee.Fits.{up_pos, down_pos}
use lib.Ieee.Order.{transfer}
use lib.Ieee.Scale.{grid, finite}
use Rattle.floats.specs.Rounding.{nearest_of}
use Rattle.floats.specs.Figures.{nought, minus_nought, one, ten_thousand, ratio_of, at_rate_of, clamp01_of, share_of, bits_of, or_nought}
use Rattle.floats.proofs.Comparing.{not_less}
use Rattle.floats.proofs.Bounds.{at_least_whole, top_value, at_most_top}
use Rattle.floats.proofs.Laws.{round_zero}

-- ---- no ratio of two `i64`s is a NaN or an infinity
abbrev negative : ℤ → Bool
negative (pos n) = false
negative (negsuc n) = true

size_le : (z : ℤ) → SFits w64 z → nat_abs z ≤ 2 ^ 63
size_le (pos n) f = omega (arith, f.sfits)
size_le (negsuc n) f = omega (arith, f.sfits)

-- the units of 2 ^ -1074 that the float nearest to z has
abbrev units_of : ℤ → ℕ
units_of z = grid binary64 (nat_abs z) 1

nearest_value : (z : ℤ) → SFits w64 z → HasValue (nearest_of z) (negative z) (units_of z) (2 ^ 1074)
unfolding of_int
nearest_value (pos n) f = top_value false n 1 (lit< tt) (omega (arith, size_le (pos n) f))
nearest_value (negsuc n) f = top_value true (suc n) 1 (lit< tt) (omega (arith, size_le (negsuc n) f))

pub value_finite : (x : Float) (s : Bool) (a c : ℕ) → HasValue x s a c → T (finite x)
value_finite nan s a c v = v
value_finite (inf t) s a c v = v
value_finite (fin t m e) s a c v = tt

-- a float of one unit or more has a significand above 0
some_digits : (n k h u d : ℕ) → 0 < u → u ≤ h → 0 < d → n * k * u ≡ h * d → 0 < n
some_digits zero k h u d some l p e = omega (arith, mul-pos {m = h} {n = d} (lt_of_lt_of_le some l) p)
some_digits (suc n) k h u d some l p e = zero-lt-suc n

-- x / p at most 2 ^ 63 and y / q at least 1
quotient_le : (x y p q g h u : ℕ) → 0 < u → g ≤ 2 ^ 63 * u → u ≤ h → x * u ≡ g * p → y * u ≡ h * q → x * q ≤ 2 ^ 63 * (y * p)
quotient_le x y p q g h u some k l e f =
    let b : g * u ≤ 2 ^ 63 * h * u = mul-le-mul_right u (omega arith) in
    omega (arith, transfer x (2 ^ 63 * y) p q g (2 ^ 63 * h) u u some some e (omega arith) b)

div_finite : (x y : Float) (s t : Bool) (g h u : ℕ) → 0 < u → g ≤ 2 ^ 63 * u → u ≤ h → HasValue x s g u → HasValue y t h u
    → T (finite (div binary64 x y))
unfolding div
div_finite nan y s t g h u some k l v w = absurd v
div_finite (inf b) y s t g h u some k l v w = absurd v
div_finite (fin b m e) nan s t g h u some k l v w = absurd w
div_finite (fin b m e) (inf c) s t g h u some k l v w = absurd w
div_finite (fin b m e) (fin c n d) s t g h u some k l v w =
    let digits : 0 < n = some_digits n (up d) h u (down d) some l (down_pos d) w.1 in
    let num = m * up e * down d in
    let den = n * up d * down e in
    rw (ne_eqb n 0 (λ (z : n ≡ 0). omega arith))
    (value_finite (round binary64 (unlike b c) num den) (unlike b c) (grid binary64 num den) (2 ^ 1074)
    (top_value (unlike b c) num den (mul-pos (mul-pos digits (up_pos d)) (down_pos e))
    (quotient_le (m * up e) (n * up d) (down e) (down d) g h u some k l v.1 w.1)))

nearest_div : (a : ℤ) (y : Float) (t : Bool) (h : ℕ) → SFits w64 a → 2 ^ 1074 ≤ h → HasValue y t h (2 ^ 1074) → T (finite (div binary64 (nearest_of a) y))
nearest_div a y t h f l w =
    div_finite (nearest_of a) y (negative a) t (units_of a) h (2 ^ 1074) (pow_pos 1074)
    (at_most_top (nat_abs a) 1 (lit< tt) (omega (arith, size_le a f)))
    l (nearest_value a f) w

-- a number other than 0 is a float of 1 or more
units_ge : (n : ℕ) → 0 < n → 2 ^ 1074 ≤ grid binary64 n 1
units_ge n h = at_least_whole 1 n 1 (lit< tt) (lit≤ tt) (omega arith)

pub ratio_finite : (a b : ℤ) → SFits w64 a → SFits w64 b → T (finite (or_nought (ratio_of a b)))
ratio_finite a (pos zero) f g = tt
ratio_finite a (pos (suc n)) f g =
    nearest_div a (nearest_of (pos (suc n))) false (units_of (pos (suc n))) f (units_ge (suc n) (zero-lt-suc n)) (nearest_value (pos (suc n)) g)
ratio_finite a (negsuc n) f g =
    nearest_div a (nearest_of (negsuc n)) true (units_of (negsuc n)) f (units_ge (suc n) (zero-lt-suc n)) (nearest_value (negsuc n) g)

-- ---- a clamped float lies in 0..1, and so is no NaN
abbrev pub InUnit : Float → Type 0
InUnit x = T (le nought x) × T (le x one)

nought_in : InUnit nought
unfolding le lt eq
nought_in = (tt, tt)

one_in : InUnit one
unfolding le lt eq
one_in = (tt, tt)

pub clamp01_in : (x : Float) → is_nan x ≡ false → InUnit (clamp01_of x)
unfolding is_nan
clamp01_in x n = go (lt x nought) (lt one x) refl refl
  where
    go : (b t : Bool) → lt x nought ≡ b → lt one x ≡ t → InUnit (cond b nought (cond t one x))
    go true t h k = nought_in
    go false true h k = one_in
    go false false h k = (not_less x nought n refl h, not_less one x refl n k)

pub in_no_nan : (x : Float) → InUnit x → is_nan x ≡ false
unfolding le lt eq is_nan
in_no_nan nan h = absurd h.0
in_no_nan (inf s) h = refl
in_no_nan (fin s m e) h = refl

finite_in : (x : Float) → T (finite x) → InUnit (clamp01_of x)
unfolding is_nan
finite_in nan h = absurd h
finite_in (inf s) h = absurd h
finite_in (fin s m e) h = clamp01_in (fin s m e) refl

pub ratio_in : (a b : ℤ) → SFits w64 a → SFits w64 b → InUnit (clamp01_of (or_nought (ratio_of a b)))
ratio_in a b f g = finite_in (or_nought (ratio_of a b)) (ratio_finite a b f g)

pub share_in : (hundredths : ℤ) → SFits w64 hundredths → InUnit (share_of hundredths)
share_in z f =
    finite_in (div binary64 (nearest_of z) ten_thousand)
    (nearest_div z ten_thousand false (10000 * 2 ^ 1074) f (lit≤ {m = 2 ^ 1074} {n = 10000 * 2 ^ 1074} tt) (refl, refl))

-- ---- -0 stays -0, and is not above 0
over_negative : (y : Float) (h u : ℕ) → 0 < u → u ≤ h → HasValue y true h u → div binary64 nought y ≡ minus_nought
unfolding div
over_negative nan h u some l w = absurd w
over_negative (inf c) h u some l w = absurd w
over_negative (fin c n d) h u some l w =
    let digits : 0 < n = some_digits n (up d) h u (down d) some l (down_pos d) w.1 in
    rw (ne_eqb n 0 (λ (z : n ≡ 0). omega arith), w.0)
    (round_zero true (0 * down d) (n * up d * 1) (omega (arith, mul-pos digits (up_pos d))) (omega arith))

pub ratio_minus_nought : (n : ℕ) → SFits w64 (negsuc n) → ratio_of (pos 0) (negsuc n) ≡ Some minus_nought
unfolding of_int round
ratio_minus_nought n f =
    ap Some (over_negative (nearest_of (negsuc n)) (units_of (negsuc n)) (2 ^ 1074) (pow_pos 1074) (units_ge (suc n) (zero-lt-suc n)) (nearest_value (negsuc n) f))

pub clamp01_minus_nought : clamp01_of minus_nought ≡ minus_nought
unfolding lt
clamp01_minus_nought = refl

pub bits_minus_nought : bits_of minus_nought ≡ 2 ^ 63
unfolding to_bits
bits_minus_nought = refl

pub rate_minus_nought : (left : ℤ) → at_rate_of left (Some minus_nought) ≡ left
unfolding lt
rate_minus_nought left = refl
