-- A whole number made of a float: how far it is from the exact number that the float stands for. Assumes nothing.
use mathlib.Core.Path.{◌≡◌, sym, ap, ◌∙◌, subst}
use mathlib.Core.Bool.{Bool, true, false}
use Prim.Native.Nat.{ℕ, zero, suc, ◌+◌, ◌*◌, ◌^◌, ◌≤◌, ◌<◌, min}
use native.Mathlib.Nat.{le_trans, le_of_eq, mul_right_comm, mul-le-mul_right, le_of_mul-le-mul_right, lt_of_mul-lt-mul_right}
use native.Mathlib.Decide.{dec_le}
use native.Mathlib.Omega.{arith}
use lib.Dec.{T}
use lib.IntN.{ℤ}
use lib.Ieee.{Float, nan, inf, fin, up, down}
use lib.Ieee.Fits.{down_pos}
use lib.Ieee.Scale.{finite}
use Rattle.integer.specs.Signs.{with_sign}
use Rattle.floats.specs.Rounding.{Near, rounded, limit, whole_of}
use Rattle.floats.proofs.Nearness.{rounded_near, below_limit, above_limit}
use Rattle.formulas.specs.Exact.{value, gap, integer, Close, HalfAnd, NearestWhole, AtMostOne}
use Rattle.formulas.proofs.Distance.{distance, same_sign, other_sign, distance_times}
use Rattle.formulas.proofs.Nearest.{fraction}
use Rattle.formulas.proofs.Rounding.{near_half}
use Rattle.formulas.proofs.Within.{Within, within_close}

-- ---- x / p is at most r / d of a / c away from it, and k at most a half from x / p
triangle : (x y z : ℕ) → distance x z ≤ distance x y + distance y z
triangle x y z = omega arith

module _ (x p a c d r : ℕ) (some : 0 < p) (close : distance (x * c) (a * p) * d ≤ a * p * r) where
  total : (f g : ℕ) → f * p ≤ g * c + distance (x * c) (a * p) → g * 2 ≤ p → f * 2 * d ≤ c * d + a * 2 * r
  total f g h k =
      let l : f * p * (2 * d) ≤ (g * c + distance (x * c) (a * p)) * (2 * d) = mul-le-mul_right (2 * d) h in
      let m : g * 2 * (c * d) ≤ p * (c * d) = mul-le-mul_right (c * d) k in
      le_of_mul-le-mul_right (sum f g (distance (x * c) (a * p)) l m close) some
    where
      sum : (f g e : ℕ) → f * p * (2 * d) ≤ (g * c + e) * (2 * d) → g * 2 * (c * d) ≤ p * (c * d) → e * d ≤ a * p * r → f * 2 * d * p ≤ (c * d + a * 2 * r) * p
      sum f g e l m n = omega arith

  at_half : (k : ℕ) → Near k x p → distance (k * c) a * 2 * d ≤ c * d + a * 2 * r
  at_half k near =
      total (distance (k * c) a) (distance (k * p) x)
      (subst (λ (n : ℕ). n ≤ distance (k * p) x * c + distance (x * c) (a * p)) (sym (distance_times (k * c) a p))
      (subst (λ (n : ℕ). distance (k * c * p) (a * p) ≤ n + distance (x * c) (a * p)) (sym (distance_times (k * p) x c))
      (subst (λ (n : ℕ). distance n (a * p) ≤ distance (k * p * c) (x * c) + distance (x * c) (a * p)) (mul_right_comm k p c) (triangle (k * p * c) (x * c) (a * p)))))
      (near_half k x p near)

  -- the clamp takes it nearer to what lies within the limit
  at_limit : (k : ℕ) → a ≤ k * c → k * p ≤ x → distance (k * c) a * 2 * d ≤ c * d + a * 2 * r
  at_limit k h l =
      total (distance (k * c) a) 0
      (subst (λ (n : ℕ). n ≤ 0 * c + distance (x * c) (a * p)) (sym (distance_times (k * c) a p))
      (between (k * c * p) (x * c) (a * p) (mul-le-mul_right p h) (le_trans (le_of_eq (mul_right_comm k c p)) (mul-le-mul_right c l))))
      (omega arith)
    where
      between : (y z t : ℕ) → t ≤ y → y ≤ z → distance y t ≤ 0 * c + distance z t
      between y z t i j = omega arith

  clamped_half : (s : Bool) → a ≤ limit * c → distance (min (rounded s x p) limit * c) a * 2 * d ≤ c * d + a * 2 * r
  clamped_half s h = go (dec_le x (limit * p))
    where
      go : Dec (x ≤ limit * p) → distance (min (rounded s x p) limit * c) a * 2 * d ≤ c * d + a * 2 * r
      go (yes l) = rw (below_limit s x p some l) (at_half (rounded s x p) (rounded_near s x p some))
      go (no l) = let m : limit * p ≤ x = omega arith in rw (above_limit s x p some m) (at_limit limit h m)

-- ---- the same with its sign
pub signed_gap : (s : Bool) (k a c : ℕ) → gap (integer (with_sign s k)) (fraction s a c) ≡ distance (k * c) a
signed_gap false k a c = same_sign false (k * c) (a * 1) ∙ one a
  where
    one : (a : ℕ) → distance (k * c) (a * 1) ≡ distance (k * c) a
    one a = let e : a * 1 ≡ a = omega arith in ap (distance (k * c)) e
signed_gap true zero a c = other_sign true (0 * c) (a * 1) ∙ omega arith
signed_gap true (suc k) a c = same_sign true (suc k * c) (a * 1) ∙ let e : a * 1 ≡ a = omega arith in ap (distance (suc k * c)) e

-- a figure of k roundings made whole is at most a half, and k / (2 ^ 53 − k) of what it stands for, away from that: |z − a / c| ≤ 1 / 2 + a / c * r / d
pub whole_half : (z : Float) (s : Bool) (a c d r : ℕ) → d + r ≡ 2 ^ 53 → a ≤ limit * c → Within d z s a c → HalfAnd r d (whole_of z) (fraction s a c)
unfolding whole_of
whole_half z s a c d r e h w = go z w.number w.sign (within_close z s a c d r e w)
  where
    go : (z : Float) → T (finite z) → (value z).sign ≡ s → Close r d z (fraction s a c) → HalfAnd r d (whole_of z) (fraction s a c)
    go nan f v k = absurd f
    go (inf t) f v k = absurd f
    go (fin t m i) f v k =
        rw (v, signed_gap s (min (rounded s (m * up i) (down i)) limit) a c)
        (clamped_half (m * up i) (down i) a c d r (down_pos i) (rw (v, same_sign s (m * up i * c) (a * down i)) at k) s h)

-- ---- where that is less than what parts a / c from a tie, it is a whole number nearest to a / c
pub whole_nearest : (z : ℤ) (s : Bool) (a c d r : ℕ) → a * 2 * r < d → HalfAnd r d z (fraction s a c) → NearestWhole z (fraction s a c)
whole_nearest z s a c d r l h = enough (gap (integer z) (fraction s a c)) h
  where
    enough : (g : ℕ) → g * 2 * d ≤ c * d + a * 2 * r → g * 2 ≤ c
    enough g h =
        let k : g * 2 * d < (c + 1) * d = omega arith in
        omega (arith, lt_of_mul-lt-mul_right d k)

-- and for an even divisor twice as far
pub whole_nearest_even : (z : ℤ) (s : Bool) (a c d r : ℕ) → a * r < d → HalfAnd r d z (fraction s a (c * 2)) → NearestWhole z (fraction s a (c * 2))
whole_nearest_even z s a c d r l h = enough (gap (integer z) (fraction s a (c * 2))) h
  where
    enough : (g : ℕ) → g * 2 * d ≤ c * 2 * d + a * 2 * r → g * 2 ≤ c * 2
    enough g h =
        let k : g * d < (c + 1) * d = omega arith in
        omega (arith, lt_of_mul-lt-mul_right d k)

-- ---- and where it is a half at the most, the whole number is at most 1 away
pub at_most_one : (z : ℤ) (s : Bool) (a c d r : ℕ) → 0 < d → a * 2 * r ≤ c * d → HalfAnd r d z (fraction s a c) → AtMostOne z (fraction s a c)
at_most_one z s a c d r some l h = enough (gap (integer z) (fraction s a c)) h
  where
    enough : (g : ℕ) → g * 2 * d ≤ c * d + a * 2 * r → g ≤ c
    enough g h =
        let k : g * d ≤ c * d = omega arith in
        le_of_mul-le-mul_right k some
