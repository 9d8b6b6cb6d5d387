-- A fraction a / c rounded to binary64 is the float nearest to it, and at most 2 ^ -53 of it away. Assumes nothing.
use mathlib.Core.Path.{◌≡◌, refl, sym, ap, ◌∙◌, subst}
use mathlib.Core.Bool.{Bool, true, false}
use mathlib.Core.Logic.{◌≢◌}
use Prim.Native.Nat.{ℕ, suc, ◌+◌, ◌-◌, ◌*◌, ◌^◌, ◌≤◌, ◌<◌}
use native.Mathlib.Nat.{le_trans, le_of_eq, mul-one, mul_comm, mul_assoc, mul_right_comm, mul-pos, mul-le-mul_left, mul-le-mul_right, le_of_mul-le-mul_right, eq_of_mul-eq-mul_right, lt_of_le_of_lt}
use native.Mathlib.Omega.{arith}
use lib.Dec.{T, lit<, lit≤}
use lib.Pow.{pow-add, pow_pos}
use lib.IntN.{ℤ, pos, negsuc}
use lib.Ieee.{Float, nan, inf, fin, binary64, up, down, round, fits}
use lib.Ieee.Digits.{back}
use lib.Ieee.Exact.{HasValue}
use lib.Ieee.Fits.{round-fits, down_pos}
use lib.Ieee.Order.{drop, kept}
use lib.Ieee.Scale.{grid, finite}
use lib.Ieee.Positive.{first_pos}
use Rattle.floats.proofs.Bounds.{round_value}
use Rattle.floats.proofs.Doubling.{held, exponent_le}
use Rattle.floats.proofs.IndexLaws.{value_finite}
use Rattle.formulas.specs.Exact.{Fraction, value, gap, NearestFloat, Close}
use Rattle.formulas.proofs.Distance.{distance, same_sign, other_sign, rescaled}
use Rattle.formulas.proofs.Errors.{Moderate}
use Rattle.formulas.proofs.Rounding.{at_most_twice, at_most_53, nearest_of_all, close_to, tie_even}
use Rattle.formulas.proofs.LastBit.{last_bit}

-- ± a / c
abbrev pub fraction : Bool → ℕ → ℕ → Fraction
fraction s a c = record { sign = s; over = a; under = c }

-- ---- a number of binary64 is m * 2 ^ j units of 2 ^ -1074, with m < 2 ^ 53
record InUnits (m : ℕ) (e : ℤ) : Type 0 where
  j : ℕ
  is : m * up e * 2 ^ 1074 ≡ m * 2 ^ j * down e

in_units : (m : ℕ) (e : ℤ) → down e ≤ 2 ^ 1074 → InUnits m e
in_units m (pos k) h = record {
  j = k + 1074;
  is = mul_assoc m (2 ^ k) (2 ^ 1074) ∙ ap (λ (x : ℕ). m * x) (sym (pow-add 2 k 1074)) ∙ sym (mul-one (m * 2 ^ (k + 1074)));
}
in_units m (negsuc k) h =
    let l : suc k < 1075 = exponent_le (suc k) 1074 h in
    let i = 1074 - suc k in
    record {
      j = i;
      is =
          ap (λ (x : ℕ). x * 2 ^ 1074) (mul-one m)
          ∙ ap (λ (x : ℕ). m * x) (ap (λ (x : ℕ). 2 ^ x) (sym (back 1074 (suc k) (omega arith))) ∙ pow-add 2 i (suc k))
          ∙ sym (mul_assoc m (2 ^ i) (2 ^ suc k));
    }

-- ---- x / p and y / q are g / u and w / u: which of them is nearer to a / c
cross : (x p y q a c g w u : ℕ) → 0 < u → x * u ≡ g * p → y * u ≡ w * q → distance (g * c) (a * u) ≤ distance (w * c) (a * u)
    → distance (x * c) (a * p) * q ≤ distance (y * c) (a * q) * p
cross x p y q a c g w u some e f h =
    let d = distance (g * c) (a * u) in
    let b = distance (w * c) (a * u) in
    let l : distance (x * c) (a * p) * q * u ≡ d * p * q = mul_right_comm (distance (x * c) (a * p)) q u ∙ ap (λ (n : ℕ). n * q) (rescaled x p g u a c e) in
    let r : distance (y * c) (a * q) * p * u ≡ b * q * p = mul_right_comm (distance (y * c) (a * q)) p u ∙ ap (λ (n : ℕ). n * p) (rescaled y q w u a c f) in
    le_of_mul-le-mul_right
    (le_trans (le_of_eq l) (le_trans (mul-le-mul_right q (mul-le-mul_right p h)) (le_of_eq (mul_right_comm b p q ∙ sym r)))) some

-- a number with the other sign is farther than 0
to_zero : (d a c p : ℕ) → d * 1 ≤ distance (0 * c) (a * 1) * p → d ≤ a * p
to_zero d a c p h =
    let z : distance (0 * c) (a * 1) ≡ a = omega arith in
    le_trans (le_of_eq (sym (mul-one d))) (subst (λ (n : ℕ). d * 1 ≤ n * p) z h)

farther : (d y q a c p : ℕ) → d ≤ a * p → d * q ≤ (y * c + a * q) * p
farther d y q a c p h = omega (arith, mul-le-mul_right q h)

-- ---- the float x, which is g units of 2 ^ -1074, against a / c
module _ (s : Bool) (a c g : ℕ) (least : (m j : ℕ) → m < 2 ^ 53 → distance (g * c) (a * 2 ^ 1074) ≤ distance (m * 2 ^ j * c) (a * 2 ^ 1074)) where
  against : (t : Bool) (x p m : ℕ) (e : ℤ) → x * 2 ^ 1074 ≡ g * p → m < 2 ^ 53 → down e ≤ 2 ^ 1074
      → gap (fraction s x p) (fraction s a c) * down e ≤ gap (fraction t (m * up e) (down e)) (fraction s a c) * p
  against t x p m e v small fine =
      let u = in_units m e fine in
      go (m * up e) (down e) s t
      (cross x p (m * up e) (down e) a c g (m * 2 ^ u.j) (2 ^ 1074) (pow_pos 1074) v u.is (least m u.j small))
      (farther (distance (x * c) (a * p)) (m * up e) (down e) a c p (to_zero (distance (x * c) (a * p)) a c p (cross x p 0 1 a c g 0 (2 ^ 1074) (pow_pos 1074) v refl (least 0 0 (lit< tt)))))
    where
      go : (y q : ℕ) (s t : Bool) → distance (x * c) (a * p) * q ≤ distance (y * c) (a * q) * p → distance (x * c) (a * p) * q ≤ (y * c + a * q) * p
          → gap (fraction s x p) (fraction s a c) * q ≤ gap (fraction t y q) (fraction s a c) * p
      go y q true true same other = rw (same_sign true (x * c) (a * p), same_sign true (y * c) (a * q)) same
      go y q false false same other = rw (same_sign false (x * c) (a * p), same_sign false (y * c) (a * q)) same
      go y q true false same other = rw (same_sign true (x * c) (a * p), other_sign true (y * c) (a * q)) other
      go y q false true same other = rw (same_sign false (x * c) (a * p), other_sign false (y * c) (a * q)) other

  least_gap : (x : Float) → HasValue x s g (2 ^ 1074) → (y : Float) → T (fits binary64 y) → T (finite y)
      → gap (value x) (fraction s a c) * (value y).under ≤ gap (value y) (fraction s a c) * (value x).under
  least_gap nan v y h f = absurd v
  least_gap (inf t) v y h f = absurd v
  least_gap (fin t m e) v nan h f = absurd f
  least_gap (fin t m e) v (inf r) h f = absurd f
  least_gap (fin t m e) v (fin r n d) h f = let l = held r n d h in rw v.0 (against r (m * up e) (down e) n d v.1 l.0 l.1)

-- ---- another float that is as near
-- x / p and y / q are g / u and w / u, as in `cross`
cross_back : (x p y q a c g w u : ℕ) → 0 < p → 0 < q → x * u ≡ g * p → y * u ≡ w * q → distance (y * c) (a * q) * p ≤ distance (x * c) (a * p) * q
    → distance (w * c) (a * u) ≤ distance (g * c) (a * u)
cross_back x p y q a c g w u P Q e f h =
    let d = distance (g * c) (a * u) in
    let b = distance (w * c) (a * u) in
    let l : b * (q * p) ≡ distance (y * c) (a * q) * p * u = sym (mul_assoc b q p) ∙ ap (λ (n : ℕ). n * p) (sym (rescaled y q w u a c f)) ∙ mul_right_comm (distance (y * c) (a * q)) u p in
    let r : distance (x * c) (a * p) * q * u ≡ d * (q * p) = mul_right_comm (distance (x * c) (a * p)) q u ∙ ap (λ (n : ℕ). n * q) (rescaled x p g u a c e) ∙ mul_assoc d p q ∙ ap (λ (n : ℕ). d * n) (mul_comm p q) in
    le_of_mul-le-mul_right (le_trans (le_of_eq l) (le_trans (mul-le-mul_right u h) (le_of_eq r))) (mul-pos Q P)

differ : (x p y q g w u : ℕ) → 0 < u → x * u ≡ g * p → y * u ≡ w * q → 0 < distance (x * q) (y * p) → w ≢ g
differ x p y q g w u some e f h same =
    let k : x * q * u ≡ y * p * u = mul_right_comm x q u ∙ ap (λ (n : ℕ). n * q) e ∙ ap (λ (n : ℕ). n * p * q) (sym same) ∙ mul_right_comm w p q ∙ ap (λ (n : ℕ). n * p) (sym f) ∙ mul_right_comm y u p in
    let l : x * q ≡ y * p = eq_of_mul-eq-mul_right u some (x * q) (y * p) k in
    omega arith

-- a float y with the other sign is as near only where it is 0
zero_near : (d y q a c p : ℕ) → 0 < c → 0 < p → 0 < q → d ≤ a * p → (y * c + a * q) * p ≤ d * q → (y ≡ 0) × (a * p ≤ d)
zero_near d y q a c p C P Q h k =
    let m : d * q ≤ a * p * q = mul-le-mul_right q h in
    let z : y * (c * p) ≤ 0 * (c * p) = omega arith in
    let n : a * p * q ≤ d * q = omega arith in
    let w : y ≤ 0 = le_of_mul-le-mul_right z (mul-pos C P) in
    (omega arith, le_of_mul-le-mul_right n Q)

module _ (a c g : ℕ) (some : 0 < c) (least : distance (g * c) (a * 2 ^ 1074) ≤ distance (0 * 2 ^ 0 * c) (a * 2 ^ 1074)) {E : Type 0}
    (tie : (m j : ℕ) → m < 2 ^ 53 → m * 2 ^ j ≢ g → distance (m * 2 ^ j * c) (a * 2 ^ 1074) ≤ distance (g * c) (a * 2 ^ 1074) → E) where
  same_tie : (x p y q m j : ℕ) → 0 < p → 0 < q → x * 2 ^ 1074 ≡ g * p → y * 2 ^ 1074 ≡ m * 2 ^ j * q → m < 2 ^ 53 → 0 < distance (x * q) (y * p)
      → distance (y * c) (a * q) * p ≤ distance (x * c) (a * p) * q → E
  same_tie x p y q m j P Q e f small d h =
      tie m j small (differ x p y q g (m * 2 ^ j) (2 ^ 1074) (pow_pos 1074) e f d) (cross_back x p y q a c g (m * 2 ^ j) (2 ^ 1074) P Q e f h)

  other_tie : (x p y q : ℕ) → 0 < p → 0 < q → x * 2 ^ 1074 ≡ g * p → 0 < x * q + y * p → (y * c + a * q) * p ≤ distance (x * c) (a * p) * q → E
  other_tie x p y q P Q e d h =
      let f : distance (x * c) (a * p) * 1 ≤ distance (0 * c) (a * 1) * p = cross x p 0 1 a c g 0 (2 ^ 1074) (pow_pos 1074) e refl least in
      let z = zero_near (distance (x * c) (a * p)) y q a c p some P Q (to_zero (distance (x * c) (a * p)) a c p f) h in
      same_tie x p 0 1 0 0 P (lit< tt) e refl (lit< tt) (above x p y q z.0 d) (level (distance (x * c) (a * p)) a c p z.1)
    where
      above : (x p y q : ℕ) → y ≡ 0 → 0 < x * q + y * p → 0 < distance (x * 1) (0 * p)
      above x p y q z h = let k : 0 < x * q + 0 * p = subst (λ (n : ℕ). 0 < x * q + n * p) z h in omega (arith, first_pos x q (omega arith))

      level : (d a c p : ℕ) → a * p ≤ d → distance (0 * c) (a * 1) * p ≤ d * 1
      level d a c p h = let z : distance (0 * c) (a * 1) ≡ a = omega arith in subst (λ (n : ℕ). n * p ≤ d * 1) (sym z) (omega arith)

  either_tie : (s r : Bool) (x p m : ℕ) (e : ℤ) → 0 < p → x * 2 ^ 1074 ≡ g * p → m < 2 ^ 53 → down e ≤ 2 ^ 1074 → 0 < gap (fraction s x p) (fraction r (m * up e) (down e))
      → gap (fraction r (m * up e) (down e)) (fraction s a c) * p ≤ gap (fraction s x p) (fraction s a c) * down e → E
  either_tie s r x p m e P v small fine = go s r (m * up e) (down e) (down_pos e) (in_units m e fine).is
    where
      go : (s r : Bool) (y q : ℕ) → 0 < q → y * 2 ^ 1074 ≡ m * 2 ^ (in_units m e fine).j * q → 0 < gap (fraction s x p) (fraction r y q)
          → gap (fraction r y q) (fraction s a c) * p ≤ gap (fraction s x p) (fraction s a c) * q → E
      go true true y q Q u d h =
          same_tie x p y q m (in_units m e fine).j P Q v u small (rw (same_sign true (x * q) (y * p)) at d) (rw (same_sign true (y * c) (a * q), same_sign true (x * c) (a * p)) at h)
      go false false y q Q u d h =
          same_tie x p y q m (in_units m e fine).j P Q v u small (rw (same_sign false (x * q) (y * p)) at d) (rw (same_sign false (y * c) (a * q), same_sign false (x * c) (a * p)) at h)
      go true false y q Q u d h = other_tie x p y q P Q v (rw (other_sign false (x * q) (y * p)) at d) (rw (other_sign true (y * c) (a * q), same_sign true (x * c) (a * p)) at h)
      go false true y q Q u d h = other_tie x p y q P Q v (rw (other_sign true (x * q) (y * p)) at d) (rw (other_sign false (y * c) (a * q), same_sign false (x * c) (a * p)) at h)

  tie_gap : (s : Bool) (x : Float) → HasValue x s g (2 ^ 1074) → (y : Float) → T (fits binary64 y) → T (finite y) → 0 < gap (value x) (value y)
      → gap (value y) (fraction s a c) * (value x).under ≤ gap (value x) (fraction s a c) * (value y).under → E
  tie_gap s nan v y h f d k = absurd v
  tie_gap s (inf t) v y h f d k = absurd v
  tie_gap s (fin t m e) v nan h f d k = absurd f
  tie_gap s (fin t m e) v (inf r) h f d k = absurd f
  tie_gap s (fin t m e) v (fin r n i) h f d k =
      let l = held r n i h in
      either_tie s r (m * up e) (down e) n i (down_pos e) v.1 l.0 l.1 (rw v.0 at d) (rw v.0 at k)

close_gap : (s : Bool) (a c g : ℕ) → distance (g * c) (a * 2 ^ 1074) * 2 ^ 53 ≤ a * 2 ^ 1074 → (x : Float) → HasValue x s g (2 ^ 1074) → Close 1 (2 ^ 53) x (fraction s a c)
close_gap s a c g h nan v = absurd v
close_gap s a c g h (inf t) v = absurd v
close_gap s a c g h (fin t m e) v = rw (v.0, same_sign s (m * up e * c) (a * down e)) (go (m * up e) (down e) (2 ^ 1074) (2 ^ 53) (pow_pos 1074) v.1 h)
  where
    go : (x p u n : ℕ) → 0 < u → x * u ≡ g * p → distance (g * c) (a * u) * n ≤ a * u → distance (x * c) (a * p) * n ≤ a * p * 1
    go x p u n some e h =
        let d = distance (g * c) (a * u) in
        let l : distance (x * c) (a * p) * n * u ≡ d * n * p = mul_right_comm (distance (x * c) (a * p)) n u ∙ ap (λ (k : ℕ). k * n) (rescaled x p g u a c e) ∙ mul_right_comm d p n in
        le_trans (le_of_mul-le-mul_right (le_trans (le_of_eq l) (le_trans (mul-le-mul_right p h) (le_of_eq (mul_right_comm a u p)))) some) (le_of_eq (sym (mul-one (a * p))))

-- ---- the two laws, for a fraction from 2 ^ -500 to 2 ^ 500, and 0
abbrev pub range : ℕ
range = 2 ^ 500

-- such a fraction becomes no infinity
below_overflow : (r a c g u : ℕ) → 0 < c → a ≤ r * c → g * c ≤ a * u * 2 + c → g ≤ r * u * 2 + 1
below_overflow r a c g u some l h =
    let m : a * (u * 2) ≤ r * c * (u * 2) = mul-le-mul_right (u * 2) l in
    let k : g * c ≤ (r * u * 2 + 1) * c = omega arith in
    le_of_mul-le-mul_right k some

module _ (s : Bool) (a c : ℕ) (some : 0 < c) (fine : Moderate range a c) where
  abbrev n : ℕ
  n = a * 2 ^ 1074

  pub is_number : HasValue (round binary64 s a c) s (grid binary64 a c) (2 ^ 1074)
  is_number =
      round_value s a c
      (lt_of_le_of_lt (below_overflow range a c (grid binary64 a c) (2 ^ 1074) some fine.most (at_most_twice n c some))
      (lit< {m = 2 ^ 500 * 2 ^ 1074 * 2 + 1} {n = 2 ^ 2098} tt))

  -- the float nearest to a / c
  pub round_nearest : NearestFloat (round binary64 s a c) (fraction s a c)
  round_nearest = record {
    held = round-fits binary64 s a c;
    number = value_finite (round binary64 s a c) s (grid binary64 a c) (2 ^ 1074) is_number;
    nearest = least_gap s a c (grid binary64 a c) (nearest_of_all n c some) (round binary64 s a c) is_number;
    even =
        tie_gap a c (grid binary64 a c) some (nearest_of_all n c some 0 0 (lit< tt))
        (λ m j small other h. last_bit (kept 53 n c) (drop 53 n c) (at_most_53 n c some) (tie_even n c some m j small other h) (round binary64 s a c) s is_number)
        s (round binary64 s a c) is_number;
  }

  -- |x − a / c| ≤ a / c * 2 ^ -53
  pub round_close : Close 1 (2 ^ 53) (round binary64 s a c) (fraction s a c)
  round_close = close_gap s a c (grid binary64 a c) (close_to n c some normal) (round binary64 s a c) is_number
    where
      normal : 0 < a * 2 ^ 1074 → 2 ^ 52 * c ≤ a * 2 ^ 1074
      normal h =
          le_trans (mul-le-mul_left (2 ^ 52) (fine.least (first_pos a (2 ^ 1074) h)))
          (le_trans (le_of_eq (sym (mul_assoc (2 ^ 52) range a) ∙ mul_comm (2 ^ 52 * range) a)) (mul-le-mul_left a (lit≤ {m = 2 ^ 52 * 2 ^ 500} {n = 2 ^ 1074} tt)))
