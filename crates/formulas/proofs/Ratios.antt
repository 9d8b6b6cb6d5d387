-- A ratio of two numbers of 64 bits: the float nearest to the quotient of their nearest floats, and up to 2 ^ 53, where a number is its own nearest float, to the
-- quotient itself. Assumes nothing.
use Rattle.std.specs.Prelude.{is_some}
use mathlib.Core.Path.{◌≡◌, refl, ap₂, ◌∙◌, subst}
use mathlib.Core.Bool.{Bool, true, false}
use mathlib.Core.Logic.{◌≢◌}
use Prim.Native.Nat.{ℕ, zero, suc, ◌-◌, ◌*◌, ◌^◌, ◌<◌}
use native.Mathlib.Nat.{lt_irrefl, mul-pos, mul-one, zero-lt-suc}
use native.Mathlib.Omega.{arith}
use lib.Dec.{lit<, lit≤}
use lib.IntN.{ℤ, pos, negsuc, nat_abs}
use lib.Ieee.{Float, nan, inf, fin, binary64, up, down, unlike, round, div, of_int}
use lib.Ieee.Exact.{HasValue}
use mir.Syntax.{w64}
use mir.Val.{SFits}
use Rattle.integer.specs.Signs.{negative, is_zero}
use Rattle.floats.specs.Rounding.{nearest_of}
use Rattle.floats.specs.Figures.{ratio_of, or_nought}
use Rattle.formulas.specs.Exact.{Fraction, quotient, integer, value, ◌÷◌, gap, Small, NearestFloat, Close, NearestIndex}
use Rattle.formulas.proofs.Distance.{distance, same_sign}
use Rattle.formulas.proofs.Errors.{Moderate, moderate, larger, moderate_near, quotient as divided}
use Rattle.formulas.proofs.Nearest.{fraction, range, round_nearest, round_close}
use Rattle.formulas.proofs.Within.{own, under_pos, div_at, Within, over_pos, exact, size_le, amount_range, nearest_within, round_within, one_more, div_within, within_close}

-- ---- a divisor that is not 0
nonzero : (b : ℤ) → b ≢ pos 0 → is_zero b ≡ false
nonzero (pos zero) h = absurd (h refl)
nonzero (pos (suc n)) h = refl
nonzero (negsuc n) h = refl

size_pos : (b : ℤ) → b ≢ pos 0 → 0 < nat_abs b
size_pos (pos zero) h = absurd (h refl)
size_pos (pos (suc n)) h = zero-lt-suc n
size_pos (negsuc n) h = zero-lt-suc n

pub not_zero : (b : ℤ) → 0 < nat_abs b → b ≢ pos 0
not_zero b h e = lt_irrefl 0 (subst (λ (z : ℤ). 0 < nat_abs z) e h)

pub ratio_present : (a b : ℤ) → b ≢ pos 0 → is_some (ratio_of a b) ≡ true
ratio_present a b h = rw (nonzero b h)

ratio_is : (a b : ℤ) → b ≢ pos 0 → or_nought (ratio_of a b) ≡ div binary64 (nearest_of a) (nearest_of b)
ratio_is a b h = rw (nonzero b h)

-- ---- the float of an amount is the one nearest to it, and up to 2 ^ 53 the amount itself
pub amount_nearest : (z : ℤ) → SFits w64 z → NearestFloat (nearest_of z) (integer z)
unfolding of_int
amount_nearest (pos n) f = round_nearest false n 1 (lit< tt) (amount_range (pos n) f)
amount_nearest (negsuc n) f = round_nearest true (suc n) 1 (lit< tt) (amount_range (negsuc n) f)

pub amount_exact : (z : ℤ) → Small z → gap (value (nearest_of z)) (integer z) ≡ 0
amount_exact z h = no_gap (nearest_of z) (negative z) (nat_abs z) (exact z h)
  where
    no_gap : (x : Float) (s : Bool) (n : ℕ) → HasValue x s n 1 → gap (value x) (fraction s n 1) ≡ 0
    no_gap nan s n v = absurd v
    no_gap (inf t) s n v = absurd v
    no_gap (fin t m e) s n v = rw (v.0, same_sign s (m * up e * 1) (n * down e), v.1) (nothing (n * down e))
      where
        nothing : (n : ℕ) → distance n n ≡ 0
        nothing n = omega arith

-- ---- for all numbers of 64 bits
module _ (a b : ℤ) (fa : SFits w64 a) (fb : SFits w64 b) (some : b ≢ pos 0) where
  abbrev x : Fraction
  x = value (nearest_of a)

  abbrev y : Fraction
  y = value (nearest_of b)

  v : Within (2 ^ 53 - 1) (nearest_of a) (negative a) (nat_abs a) 1
  v = nearest_within a fa

  w : Within (2 ^ 53 - 1) (nearest_of b) (negative b) (nat_abs b) 1
  w = nearest_within b fb

  divisor : 0 < (x ÷ y).under
  divisor = mul-pos (over_pos (lit< tt) (size_pos b some) w) (under_pos (nearest_of a) v.number)

  exact_range : Moderate (2 ^ 499) (nat_abs a * 1) (nat_abs b * 1)
  exact_range =
      larger (lit≤ {m = 2 ^ 63} {n = 2 ^ 499} tt)
      (moderate (2 ^ 63) (nat_abs a * 1) (nat_abs b * 1) (omega (arith, size_le a fa)) (omega (arith, size_le b fb)) (omega (arith, size_pos b some)))

  fine : Moderate range (x ÷ y).over (x ÷ y).under
  fine = moderate_near (mul-pos (size_pos b some) (lit< tt)) (lit< tt) (lit≤ tt) (divided v.ratio w.ratio) exact_range

  rounds : or_nought (ratio_of a b) ≡ round binary64 (x ÷ y).sign (x ÷ y).over (x ÷ y).under
  rounds =
      ratio_is a b some
      ∙ div_at (nearest_of a) (nearest_of b) x.sign y.sign x.over x.under y.over y.under (under_pos (nearest_of a) v.number) (over_pos (lit< tt) (size_pos b some) w)
      (own (nearest_of a) v.number) (own (nearest_of b) w.number)

  -- the float nearest to (the float nearest to a) / (the float nearest to b)
  pub ratio_nearest : NearestIndex (ratio_of a b) (value (nearest_of a) ÷ value (nearest_of b))
  ratio_nearest = record {
    present = ratio_present a b some;
    nearest = rw rounds (round_nearest (x ÷ y).sign (x ÷ y).over (x ÷ y).under divisor fine);
    close = rw rounds (round_close (x ÷ y).sign (x ÷ y).over (x ÷ y).under divisor fine);
  }

  -- and of three roundings: |x − a / b| ≤ |a / b| * 3 / (2 ^ 53 − 3)
  pub ratio_within : Within (2 ^ 53 - 3) (or_nought (ratio_of a b)) (quotient a b).sign (nat_abs a) (nat_abs b)
  ratio_within =
      rw (ratio_is a b some)
      (subst (λ (n : ℕ). Within (2 ^ 53 - 3) (div binary64 (nearest_of a) (nearest_of b)) (quotient a b).sign n (nat_abs b)) (mul-one (nat_abs a))
      (subst (λ (n : ℕ). Within (2 ^ 53 - 3) (div binary64 (nearest_of a) (nearest_of b)) (quotient a b).sign (nat_abs a * 1) n) (mul-one (nat_abs b))
      (div_within (nearest_of a) (nearest_of b) (negative a) (negative b) (nat_abs a) 1 (nat_abs b) 1 (2 ^ 53 - 1) (2 ^ 53 - 1) (2 ^ 53 - 3) (lit< tt) (size_pos b some) (one_more tt tt)
      exact_range v w)))

  pub ratio_close : Close 3 (2 ^ 53 - 3) (or_nought (ratio_of a b)) (quotient a b)
  ratio_close = within_close (or_nought (ratio_of a b)) (quotient a b).sign (nat_abs a) (nat_abs b) (2 ^ 53 - 3) 3 refl ratio_within

-- ---- up to 2 ^ 53
module _ (a b : ℤ) (some : b ≢ pos 0) (sa : Small a) (sb : Small b) where
  pub small_ratio : or_nought (ratio_of a b) ≡ round binary64 (unlike (negative a) (negative b)) (nat_abs a) (nat_abs b)
  small_ratio =
      ratio_is a b some
      ∙ div_at (nearest_of a) (nearest_of b) (negative a) (negative b) (nat_abs a) 1 (nat_abs b) 1 (lit< tt) (size_pos b some) (exact a sa) (exact b sb)
      ∙ ap₂ (round binary64 (unlike (negative a) (negative b))) (mul-one (nat_abs a)) (mul-one (nat_abs b))

  small : Moderate range (nat_abs a) (nat_abs b)
  small = larger (lit≤ {m = 2 ^ 53} {n = 2 ^ 500} tt) (moderate (2 ^ 53) (nat_abs a) (nat_abs b) sa sb (size_pos b some))

  -- the float nearest to a / b
  pub small_ratio_nearest : NearestIndex (ratio_of a b) (quotient a b)
  small_ratio_nearest = record {
    present = ratio_present a b some;
    nearest = rw small_ratio (round_nearest (unlike (negative a) (negative b)) (nat_abs a) (nat_abs b) (size_pos b some) small);
    close = rw small_ratio (round_close (unlike (negative a) (negative b)) (nat_abs a) (nat_abs b) (size_pos b some) small);
  }

  pub small_ratio_within : Within (2 ^ 53 - 1) (or_nought (ratio_of a b)) (quotient a b).sign (nat_abs a) (nat_abs b)
  small_ratio_within = rw small_ratio (round_within (unlike (negative a) (negative b)) (nat_abs a) (nat_abs b) (size_pos b some) small)
