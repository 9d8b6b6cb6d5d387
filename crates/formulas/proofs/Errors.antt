-- Relative errors of fractions, on natural numbers. Assumes nothing.
use mathlib.Core.Path.{◌≡◌, sym, subst}
use Prim.Native.Nat.{ℕ, ◌+◌, ◌*◌, ◌≤◌, ◌<◌}
use native.Mathlib.Nat.{le_trans, le_of_eq, le_of_lt, lt_of_lt_of_le, le-mul_of_pos_right, mul_assoc, mul-le-mul, mul-le-mul_left, mul-le-mul_right, le_of_mul-le-mul_right, mul-pos}
use native.Mathlib.Decide.{dec_lt}
use native.Mathlib.Omega.{arith}
use lib.Ieee.Positive.{first_pos}
use Rattle.formulas.proofs.Distance.{distance, distance_times}

-- x / p is a / c, but for a factor between d / n and n / d
pub record Ratio (x p a c d n : ℕ) : Type 0 where
  pub upper : x * c * d ≤ a * p * n
  pub lower : a * p * d ≤ x * c * n

-- the factors of x / p to y / q and of y / q to a / c multiply
pub through : {x p y q a c d n e m : ℕ} → 0 < q → Ratio x p y q d n → Ratio y q a c e m → Ratio x p a c (d * e) (n * m)
through {x} {p} {y} {q} {a} {c} {d} {n} {e} {m} some f g = record {
  upper =
      let l : x * q * d * (c * e) ≤ y * p * n * (c * e) = mul-le-mul_right (c * e) f.upper in
      let r : y * c * e * (p * n) ≤ a * q * m * (p * n) = mul-le-mul_right (p * n) g.upper in
      let h : x * c * (d * e) * q ≤ a * p * (n * m) * q = omega arith in
      le_of_mul-le-mul_right h some;
  lower =
      let l : a * q * e * (p * d) ≤ y * c * m * (p * d) = mul-le-mul_right (p * d) g.lower in
      let r : y * p * d * (c * m) ≤ x * q * n * (c * m) = mul-le-mul_right (c * m) f.lower in
      let h : a * p * (d * e) * q ≤ x * c * (n * m) * q = omega arith in
      le_of_mul-le-mul_right h some;
}

-- so do those of two factors of a product
pub product : {x p a c d n y q b e k m : ℕ} → Ratio x p a c d n → Ratio y q b e k m → Ratio (x * y) (p * q) (a * b) (c * e) (d * k) (n * m)
product {x} {p} {a} {c} {d} {n} {y} {q} {b} {e} {k} {m} f g = record {
  upper = let l : x * c * d * (y * e * k) ≤ a * p * n * (b * q * m) = mul-le-mul f.upper g.upper in omega arith;
  lower = let l : a * p * d * (b * q * k) ≤ x * c * n * (y * e * m) = mul-le-mul f.lower g.lower in omega arith;
}

-- and of a quotient's two parts
pub quotient : {x p a c d n y q b e k m : ℕ} → Ratio x p a c d n → Ratio y q b e k m → Ratio (x * q) (y * p) (a * e) (b * c) (d * k) (n * m)
quotient {x} {p} {a} {c} {d} {n} {y} {q} {b} {e} {k} {m} f g = record {
  upper = let l : x * c * d * (b * q * k) ≤ a * p * n * (y * e * m) = mul-le-mul f.upper g.lower in omega arith;
  lower = let l : a * p * d * (y * e * k) ≤ x * c * n * (b * q * m) = mul-le-mul f.lower g.upper in omega arith;
}

-- e / (n * k) is d / n at least
pub weaken : {x p a c e n d : ℕ} (k : ℕ) → 0 < k → d * k ≤ e → Ratio x p a c e (n * k) → Ratio x p a c d n
weaken {x} {p} {a} {c} {e} {n} {d} k some h f = record {
  upper =
      let l : x * c * (d * k) ≤ x * c * e = mul-le-mul_left (x * c) h in
      let t : x * c * d * k ≤ a * p * n * k = omega (arith, f.upper) in
      le_of_mul-le-mul_right t some;
  lower =
      let l : a * p * (d * k) ≤ a * p * e = mul-le-mul_left (a * p) h in
      let t : a * p * d * k ≤ x * c * n * k = omega (arith, f.lower) in
      le_of_mul-le-mul_right t some;
}

-- ---- as a distance: |x / p − a / c| is at most a / c * r / d
pub apart : {x p a c d : ℕ} (r : ℕ) → Ratio x p a c d (d + r) → distance (x * c) (a * p) * d ≤ a * p * r
apart {x} {p} {a} {c} {d} r f = subst (λ (z : ℕ). z ≤ a * p * r) (sym (distance_times (x * c) (a * p) d)) (go (x * c) (a * p) (dec_lt (x * c) (a * p)) f.upper f.lower)
  where
    go : (y t : ℕ) → Dec (y < t) → y * d ≤ t * (d + r) → t * d ≤ y * (d + r) → distance (y * d) (t * d) ≤ t * r
    go y t (yes l) u v =
        let m : y * r ≤ t * r = mul-le-mul_right r (omega arith) in
        let k : y * d ≤ t * d = mul-le-mul_right d (omega arith) in
        let w : t * d ≤ y * d + y * r = omega arith in
        omega arith
    go y t (no l) u v =
        let k : t * d ≤ y * d = mul-le-mul_right d (omega arith) in
        let w : y * d ≤ t * d + t * r = omega arith in
        omega arith

-- and back, for |x / p − a / c| at most a / c / (d + 1)
pub within : (x p a c d : ℕ) → distance (x * c) (a * p) * (d + 1) ≤ a * p * 1 → Ratio x p a c d (d + 1)
within x p a c d h =
    let k = subst (λ (z : ℕ). z ≤ a * p * 1) (distance_times (x * c) (a * p) (d + 1)) h in
    record { upper = above (x * c) (a * p) k (dec_lt (x * c) (a * p)); lower = below (x * c) (a * p) k }
  where
    plain : (y t : ℕ) → distance (y * (d + 1)) (t * (d + 1)) ≤ t * 1 → (y * d + y ≤ t * d + t + t) × (t * d + t ≤ y * d + y + t)
    plain y t k =
        let e : y * (d + 1) ≡ y * d + y = omega arith in
        let f : t * (d + 1) ≡ t * d + t = omega arith in
        omega arith

    above : (y t : ℕ) → distance (y * (d + 1)) (t * (d + 1)) ≤ t * 1 → Dec (y < t) → y * d ≤ t * (d + 1)
    above y t k (yes l) = omega (arith, mul-le-mul_right d (le_of_lt l))
    above y t k (no l) = omega (arith, plain y t k)

    below : (y t : ℕ) → distance (y * (d + 1)) (t * (d + 1)) ≤ t * 1 → t * d ≤ y * (d + 1)
    below y t k = omega (arith, plain y t k)

-- ---- a / c is between 1 / h and h, or 0
pub record Moderate (h a c : ℕ) : Type 0 where
  pub most : a ≤ h * c
  pub least : 0 < a → c ≤ h * a

-- what is near such a fraction is one, with twice the bound
pub moderate_near : {x p a c d n h : ℕ} → 0 < c → 0 < d → n ≤ d * 2 → Ratio x p a c d n → Moderate h a c → Moderate (h * 2) x p
moderate_near {x} {p} {a} {c} {d} {n} {h} C D N f g = record {
  most =
      let l : a * (p * n) ≤ h * c * (p * n) = mul-le-mul_right (p * n) g.most in
      let r : h * c * p * n ≤ h * c * p * (d * 2) = mul-le-mul_left (h * c * p) N in
      let t : x * (c * d) ≤ h * 2 * p * (c * d) = omega (arith, f.upper) in
      le_of_mul-le-mul_right t (mul-pos C D);
  least = λ (X : 0 < x).
      let A : 0 < a = first_pos a (p * n) (lt_of_lt_of_le (mul-pos (mul-pos X C) D) (le_trans f.upper (le_of_eq (mul_assoc a p n)))) in
      let l : c * (x * n) ≤ h * a * (x * n) = mul-le-mul_right (x * n) (g.least A) in
      let r : h * a * x * n ≤ h * a * x * (d * 2) = mul-le-mul_left (h * a * x) N in
      let t : p * (a * d) ≤ h * 2 * x * (a * d) = omega (arith, f.lower) in
      le_of_mul-le-mul_right t (mul-pos A D);
}

-- numbers up to h, the divisor not 0
pub moderate : (h a c : ℕ) → a ≤ h → c ≤ h → 0 < c → Moderate h a c
moderate h a c i j C = record {
  most = le_trans i (le-mul_of_pos_right h C);
  least = λ (A : 0 < a). le_trans j (le-mul_of_pos_right h A);
}

pub larger : {h k a c : ℕ} → h ≤ k → Moderate h a c → Moderate k a c
larger {h} {k} {a} {c} l f = record {
  most = le_trans f.most (mul-le-mul_right c l);
  least = λ (A : 0 < a). le_trans (f.least A) (mul-le-mul_right a l);
}
