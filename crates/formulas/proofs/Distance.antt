-- How far two magnitudes are apart, and the gap of two fractions by their signs. Assumes nothing.
use mathlib.Core.Path.{◌≡◌, sym, ap, ap₂, ◌∙◌, subst}
use mathlib.Core.Bool.{Bool, true, false, not}
use Prim.Native.Nat.{ℕ, ◌+◌, ◌-◌, ◌*◌, ◌<◌}
use native.Mathlib.Nat.{mul_right_comm}
use native.Mathlib.Decide.{dec_lt}
use native.Mathlib.Omega.{arith}
use lib.IntN.{pos, neg_ℤ, nat_abs, ◌-ℤ◌}
use Rattle.integer.specs.Linear.{dif, abs, apart}
use Rattle.integer.specs.Signs.{with_sign, neg_parts}

-- |x − y|
abbrev pub distance : ℕ → ℕ → ℕ
distance x y = (x - y) + (y - x)

pub same_sign : (s : Bool) (x y : ℕ) → nat_abs (with_sign s x -ℤ with_sign s y) ≡ distance x y
same_sign false x y = omega (arith, dif (pos x) (pos y), abs (pos x -ℤ pos y), apart (pos x -ℤ pos y))
same_sign true x y =
    let p = neg_ℤ (pos x) in
    let q = neg_ℤ (pos y) in
    omega (arith, neg_parts x, neg_parts y, dif p q, abs (p -ℤ q), apart (p -ℤ q))

pub other_sign : (s : Bool) (x y : ℕ) → nat_abs (with_sign (not s) x -ℤ with_sign s y) ≡ x + y
other_sign false x y =
    let p = neg_ℤ (pos x) in
    omega (arith, neg_parts x, dif p (pos y), abs (p -ℤ pos y), apart (p -ℤ pos y))
other_sign true x y =
    let q = neg_ℤ (pos y) in
    omega (arith, neg_parts y, dif (pos x) q, abs (pos x -ℤ q), apart (pos x -ℤ q))

-- |x − y| * k = |x * k − y * k|
above_times : (x d k : ℕ) → distance (x + d) x * k ≡ distance ((x + d) * k) (x * k)
above_times x d k =
    let e : distance (x + d) x ≡ d = omega arith in
    ap (λ (n : ℕ). n * k) e ∙ omega arith

below_times : (x d k : ℕ) → distance x (x + d) * k ≡ distance (x * k) ((x + d) * k)
below_times x d k =
    let e : distance x (x + d) ≡ d = omega arith in
    ap (λ (n : ℕ). n * k) e ∙ omega arith

pub distance_times : (x y k : ℕ) → distance x y * k ≡ distance (x * k) (y * k)
distance_times x y k = go (dec_lt x y)
  where
    go : Dec (x < y) → distance x y * k ≡ distance (x * k) (y * k)
    go (yes l) =
        let e : y ≡ x + (y - x) = omega arith in
        subst (λ (z : ℕ). distance x z * k ≡ distance (x * k) (z * k)) (sym e) (below_times x (y - x) k)
    go (no l) =
        let e : x ≡ y + (x - y) = omega arith in
        subst (λ (z : ℕ). distance z y * k ≡ distance (z * k) (y * k)) (sym e) (above_times y (x - y) k)

-- the same fraction g / u = x / p, against a / c: the distances are in the ratio of the divisors
pub rescaled : (x p g u a c : ℕ) → x * u ≡ g * p → distance (x * c) (a * p) * u ≡ distance (g * c) (a * u) * p
rescaled x p g u a c e =
    distance_times (x * c) (a * p) u
    ∙ ap₂ distance (mul_right_comm x c u ∙ ap (λ (n : ℕ). n * c) e ∙ mul_right_comm g p c) (mul_right_comm a p u)
    ∙ sym (distance_times (g * c) (a * u) p)
