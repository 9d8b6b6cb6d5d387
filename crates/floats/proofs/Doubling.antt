-- Twice a float from zero to the limit is exact, so that cut to a whole number it gives the rounded magnitude; and what `whole_of` is elsewhere. Assumes nothing.
use Rattle.std.proofs.Common.{◌≡◌, ℕ, zero, suc, ◌+◌, ◌-◌, ◌*◌, ◌/◌, ◌%◌, ◌^◌, ◌<◌, ◌≤◌, min, Bool, true, false, ◌&&◌, ◌||◌, T, eqb, ltb, leb, ℤ, pos, negsuc, neg_ℤ, nat_abs, sym, refl, ap, ◌∙◌, subst, true≢false, zero-le, le_trans, le_of_eq, le_refl, lt_of_lt_of_le, lt_of_le_of_lt, mul-le-mul_right, mul_assoc, div-lt_iff_lt-mul, lt_of_mul-lt-mul_right, mul-lt-mul_of_pos_right, one-mul, lt_of_not-le, mul-one, mul_right_comm, not-le_of_lt, arith, lit<, lit≤, eqb→eq, ltb→lt, lt→ltb, leb→le, pow_pos, pow_mono, pow-add, shl_lt, ltb-false, ltb-true, eqb-true}
use lib.Pow.{pow-lt}
use lib.Ieee.{Float, nan, inf, fin, binary64, up, down, lt, le, eq, neg, mul, round, fits, to_unsigned}
use lib.Ieee.Digits.{back}
use lib.Ieee.Fits.{and_l, and_r, down_pos}
use lib.Ieee.Exact.{HasValue, round_exact}
use lib.Ieee.Nearest.{div_same}
use Rattle.integer.specs.Linear.{plus}
use Rattle.floats.specs.Rounding.{limit, rounded, whole_of}
use Rattle.floats.specs.Figures.{nought}
use Rattle.floats.proofs.Nearness.{below_limit, above_limit, zero_stays}
use Rattle.floats.proofs.Halves.{rounded_is}
use Rattle.floats.proofs.Comparing.{at_least, above, and_true}
use Rattle.floats.proofs.Laws.{whole_within}

-- the limit and 2, as floats
abbrev pub limit64 : Float
limit64 = fin false 274658203125 (pos 15)

abbrev pub two : Float
two = fin false 1 (pos 1)

-- ---- what an f64 holds: a significand below 2 ^ 53, in units of 2 ^ -1074 or larger ones
pub held : (s : Bool) (m : ℕ) (e : ℤ) → T (fits binary64 (fin s m e)) → (m < 2 ^ 53) × (down e ≤ 2 ^ 1074)
unfolding fits
held s zero (pos k) t = (lit< tt, lit≤ tt)
held s zero (negsuc k) t = (lit< tt, le_trans (le_of_eq (sym (one-mul (2 ^ suc k)) ∙ eqb→eq (1 * 2 ^ suc k) 1 t)) (lit≤ tt))
held s (suc m) e t =
    let odd = eqb (suc m % 2) 1 in
    let short = ltb (suc m) (2 ^ 53) in
    let fine = leb (down e) (2 ^ 1074) in
    let u : T (odd && short && fine) = and_l (odd && short && fine) (ltb (suc m * up e) (2 ^ 1024 * down e)) t in
    (ltb→lt (suc m) (2 ^ 53) (and_r odd short (and_l (odd && short) fine u)), leb→le (down e) (2 ^ 1074) (and_r (odd && short) fine u))

pub exponent_le : (i j : ℕ) → 2 ^ i ≤ 2 ^ j → i < suc j
exponent_le i j h = lt_of_not-le (λ (g : suc j ≤ i). not-le_of_lt (pow-lt g) h)

in_units : (p k : ℕ) → p * 2 ^ (k + 1075) ≡ p * 2 ^ k * 2 ^ 1075
in_units p k = ap (λ (x : ℕ). p * x) (pow-add 2 k 1075) ∙ sym (mul_assoc p (2 ^ k) (2 ^ 1075))

-- twice m * up e / down e, as `mul` works it out
doubled : (m : ℕ) (e : ℤ) → m < 2 ^ 53 → down e ≤ 2 ^ 1074 → m * up e ≤ limit * down e
    → HasValue (round binary64 false (m * up e * 2) (down e * 1)) false (m * up e * 2) (down e)
doubled m (pos k) s d l =
    let a = m * 2 ^ k in
    let b : a * 2 ^ 1075 < 2 ^ 2098 = lt_of_le_of_lt (mul-le-mul_right {m = a} {n = limit} (2 ^ 1075) l) (lit< {m = 9000000000000000 * 2 ^ 1075} {n = 2 ^ 2098} tt) in
    round_exact binary64 false (a * 2) 1 m (k + 1075) (lit< tt) s
    (subst (λ (x : ℕ). x < 2 ^ 2098) (sym (in_units m k)) b)
    (mul_assoc a 2 (2 ^ 1074) ∙ sym (in_units m k) ∙ sym (mul-one (m * 2 ^ (k + 1075))))
doubled m (negsuc k) s d l =
    let h : suc k < 1075 = exponent_le (suc k) 1074 d in
    let j = 1075 - suc k in
    let b : m * 2 ^ j < 2 ^ 2098 = lt_of_lt_of_le (shl_lt 53 j s) (pow_mono {j = 2098} (omega arith)) in
    let p : 2 ^ j * 2 ^ suc k ≡ 2 ^ 1075 = sym (pow-add 2 j (suc k)) ∙ ap (λ (x : ℕ). 2 ^ x) (back 1075 (suc k) (omega arith)) in
    let v : m * 1 * 2 * 2 ^ 1074 ≡ m * 2 ^ j * 2 ^ suc k = mul_assoc (m * 1) 2 (2 ^ 1074) ∙ ap (λ (x : ℕ). x * 2 ^ 1075) (mul-one m) ∙ ap (λ (x : ℕ). m * x) (sym p) ∙ sym (mul_assoc m (2 ^ j) (2 ^ suc k)) in
    subst (λ (x : ℕ). HasValue (round binary64 false (m * 1 * 2) x) false (m * 1 * 2) (2 ^ suc k)) (sym (mul-one (2 ^ suc k)))
    (round_exact binary64 false (m * 1 * 2) (2 ^ suc k) m j (pow_pos (suc k)) s b v)

-- ---- a float from zero to the limit: its magnitude a / c, and that of twice it
pub record Middle (x : Float) : Type 0 where
  pub a : ℕ
  pub c : ℕ
  pub some : 0 < c
  pub small : a ≤ limit * c
  pub is : plus (whole_of x) ≡ (a * 2 / c + 1) / 2
  pub twice : HasValue (mul binary64 x two) false (a * 2) c

pub middle : (x : Float) → T (fits binary64 x) → le limit64 x ≡ false → lt nought x ≡ true → Middle x
unfolding le lt eq whole_of mul
middle nan t p q = absurd (true≢false (sym q))
middle (inf true) t p q = absurd (true≢false (sym q))
middle (inf false) t p q = absurd (true≢false p)
middle (fin true m e) t p q = absurd (true≢false (sym q))
middle (fin false m e) t p q =
    let a = m * up e in
    let c = down e in
    let k : 0 < c = down_pos e in
    let l : a ≤ limit * c = omega (arith, above (limit * c) (a * 1) p) in
    let f = held false m e t in
    record {
      a = a;
      c = c;
      some = k;
      small = l;
      is = below_limit false a c k l ∙ rounded_is false a c k;
      twice = doubled m e f.0 f.1 l;
    }

-- ---- a float that is a / c and not negative: the range in which it can be cut, and what it is cut to
in_range_lem : (y : Float) (a c : ℕ) → 0 < c → a < 2 ^ 64 * c → HasValue y false a c → T (lt (fin true 1 (pos 0)) y) × T (lt y (fin false 1 (pos 64)))
unfolding lt
in_range_lem nan a c h l v = absurd v
in_range_lem (inf s) a c h l v = absurd v
in_range_lem (fin true m e) a c h l v = absurd (true≢false v.0)
in_range_lem (fin false m e) a c h l v =
    let x = m * up e in
    let d = down e in
    let k : 0 < d = down_pos e in
    let w : x * c < 2 ^ 64 * d * c = subst (λ (z : ℕ). z < 2 ^ 64 * d * c) (sym v.1) (lt_of_lt_of_le (mul-lt-mul_of_pos_right l k) (le_of_eq (mul_right_comm (2 ^ 64) c d))) in
    let u : x < 2 ^ 64 * d = lt_of_mul-lt-mul_right c w in
    (lt→ltb 0 (1 * d + x * 1) (omega arith), lt→ltb (x * 1) (2 ^ 64 * d) (omega arith))

cut : (y : Float) (a c : ℕ) → 0 < c → a / c < 2 ^ 64 → HasValue y false a c → to_unsigned 64 y ≡ a / c
unfolding to_unsigned
cut nan a c h l v = absurd v
cut (inf s) a c h l v = absurd v
cut (fin true m e) a c h l v = absurd (true≢false v.0)
cut (fin false m e) a c h l v =
    let same : m * up e / down e ≡ a / c = div_same (m * up e) (down e) a c (down_pos e) h v.1 in
    omega arith

module _ (x : Float) (b : Middle x) where
  pub twice_range : T (lt (fin true 1 (pos 0)) (mul binary64 x two)) × T (lt (mul binary64 x two) (fin false 1 (pos 64)))
  twice_range = in_range_lem (mul binary64 x two) (b.a * 2) b.c b.some (omega (arith, b.small, b.some)) b.twice

  twice_le : b.a * 2 / b.c < limit * 2 + 1
  twice_le = (div-lt_iff_lt-mul b.some).1 (omega (arith, b.small, b.some))

  twice_cut : to_unsigned 64 (mul binary64 x two) ≡ b.a * 2 / b.c
  twice_cut = cut (mul binary64 x two) (b.a * 2) b.c b.some (omega (arith, twice_le)) b.twice

  pub twice_fits : to_unsigned 64 (mul binary64 x two) ≤ limit * 2
  twice_fits = omega (arith, twice_cut, twice_le)

  pub twice_is : (to_unsigned 64 (mul binary64 x two) + 1) / 2 ≡ plus (whole_of x)
  twice_is = ap (λ (n : ℕ). (n + 1) / 2) twice_cut ∙ sym b.is

-- ---- from the limit on, and where x is not above zero
pub at_limit : (x : Float) → le limit64 x ≡ true → plus (whole_of x) ≡ limit
unfolding le lt eq whole_of
at_limit nan p = absurd (true≢false (sym p))
at_limit (inf true) p = absurd (true≢false (sym p))
at_limit (inf false) p = refl
at_limit (fin true m e) p = absurd (never (down e) (m * up e * 1) (down_pos e) p)
  where
    never : (d a : ℕ) → 0 < d → (eqb (limit * d) a && (false || eqb (limit * d) 0)) ≡ true → ⊥
    never d a some p = omega (arith, eqb-true (limit * d) 0 (and_true (eqb (limit * d) a) (eqb (limit * d) 0) p))
at_limit (fin false m e) p =
    above_limit false (m * up e) (down e) (down_pos e) (omega (arith, at_least (limit * down e) (m * up e * 1) p))

pub not_above : (x : Float) → lt nought x ≡ false → plus (whole_of x) ≡ 0
unfolding lt whole_of
not_above nan p = refl
not_above (inf true) p = refl
not_above (inf false) p = absurd (true≢false p)
not_above (fin true m e) p = no_part (min (rounded true (m * up e) (down e)) limit)
  where
    no_part : (n : ℕ) → plus (neg_ℤ (pos n)) ≡ 0
    no_part zero = refl
    no_part (suc n) = refl
not_above (fin false m e) p =
    zero_stays false (m * up e) (down e) (down_pos e) (omega (arith, ltb-false (0 * down e) (m * up e * 1) p))

-- ---- the sign put back
pub whole_below : (x : Float) → lt x nought ≡ true → neg_ℤ (pos (plus (whole_of (neg x)))) ≡ whole_of x
unfolding lt whole_of neg
whole_below nan p = absurd (true≢false (sym p))
whole_below (inf true) p = refl
whole_below (inf false) p = absurd (true≢false (sym p))
whole_below (fin true m e) p =
    ap (λ (n : ℕ). neg_ℤ (pos (min n limit))) (rounded_is false (m * up e) (down e) (down_pos e) ∙ sym (rounded_is true (m * up e) (down e) (down_pos e)))
whole_below (fin false m e) p = absurd (never (m * up e) (down e) (ltb-true (m * up e * 1) (0 * down e) p))
  where
    never : (a d : ℕ) → a * 1 < 0 * d → ⊥
    never a d h = omega arith

pub whole_above : (x : Float) → lt x nought ≡ false → pos (plus (whole_of x)) ≡ whole_of x
unfolding lt whole_of
whole_above nan p = refl
whole_above (inf true) p = absurd (true≢false p)
whole_above (inf false) p = refl
whole_above (fin true m e) p =
    let z : m * up e ≡ 0 = omega (arith, ltb-false 0 (m * up e * 1 + 0 * down e) p) in
    rw (zero_stays true (m * up e) (down e) (down_pos e) z)
whole_above (fin false m e) p = refl

-- ---- and what is made whole is small
pub part_le : (x : Float) → plus (whole_of x) ≤ limit
part_le x = le_trans (part_of (whole_of x)) (whole_within x)
  where
    part_of : (z : ℤ) → plus z ≤ nat_abs z
    part_of (pos n) = le_refl n
    part_of (negsuc n) = zero-le
