-- The laws of whole numbers and of what is earned, whatever the tie rule. Assumes nothing.
use Rattle.std.proofs.Common.{◌≡◌, ℕ, zero, suc, ◌*◌, ◌^◌, ◌<◌, ◌≤◌, min, Bool, true, false, ltb, leb, ℤ, pos, negsuc, neg_ℤ, nat_abs, sym, refl, ap, ◌∙◌, le_trans, le_of_eq, mul-le-mul_right, mul-one, mul_right_comm, le_of_mul-le-mul_right, arith, lit<, lit≤, pow_pos, ltb-false, ltb-true, leb-false, leb-true}
use lib.Ieee.{Float, nan, inf, fin, binary64, up, down, unlike, round, mul, of_int}
use lib.Ieee.Exact.{HasValue}
use lib.Ieee.Fits.{down_pos}
use lib.Ieee.Back.{round_whole}
use lib.Ieee.Scale.{round_same, grid, overflow}
use Rattle.integer.specs.Signs.{with_sign}
use Rattle.floats.specs.Rounding.{nearest_of, rounded, Near, limit, clamped, within, whole_of}
use Rattle.floats.specs.Figures.{nought, one, earned_of}
use Rattle.floats.proofs.Nearness.{rounded_near, rounded_whole, below_limit, above_limit}
use Rattle.floats.proofs.Bounds.{round_value, round_overflow, at_least_whole}

-- ---- a whole number made of a float is at most the limit either way
clamped_le : (s : Bool) (n : ℕ) → n ≤ limit → nat_abs (with_sign s n) ≤ limit
clamped_le false n h = h
clamped_le true zero h = h
clamped_le true (suc n) h = h

min_le : (n : ℕ) → min n limit ≤ limit
min_le n = omega arith

pub whole_within : (x : Float) → nat_abs (whole_of x) ≤ limit
unfolding whole_of
whole_within nan = lit≤ tt
whole_within (inf s) = clamped_le s limit (lit≤ tt)
whole_within (fin s m e) = clamped_le s (min (rounded s (m * up e) (down e)) limit) (min_le (rounded s (m * up e) (down e)))

-- and up to there at most a half away from the float, whose magnitude is a / c
pub record HalfAway (x : Float) (s : Bool) (a c : ℕ) : Type 0 where
  pub k : ℕ
  pub is : whole_of x ≡ with_sign s k
  pub near : Near k a c

pub whole_near : (s : Bool) (m : ℕ) (e : ℤ) → m * up e ≤ limit * down e → HalfAway (fin s m e) s (m * up e) (down e)
unfolding whole_of
whole_near s m e h =
    let a = m * up e in
    let c = down e in
    record { k = rounded s a c; is = ap (with_sign s) (below_limit s a c (down_pos e) h); near = rounded_near s a c (down_pos e) }

-- ---- a float that is a whole number
whole_value : (x : Float) (s : Bool) (n : ℕ) → HasValue x s n 1 → whole_of x ≡ clamped s n
unfolding whole_of
whole_value nan s n v = absurd v
whole_value (inf t) s n v = absurd v
whole_value (fin t m e) s n v =
    rw (v.0, rounded_whole s (m * up e) (down e) (down_pos e) n (sym (mul-one (m * up e)) ∙ v.1))

-- ---- a float at the limit or beyond
abbrev Large : Bool → Float → Type 0
Large s nan = ⊥
Large s (inf t) = t ≡ s
Large s (fin t m e) = (t ≡ s) × (limit * down e ≤ m * up e)

large_value : (x : Float) (s : Bool) (g u : ℕ) → 0 < u → limit * u ≤ g → HasValue x s g u → Large s x
large_value nan s g u some h v = v
large_value (inf t) s g u some h v = absurd v
large_value (fin t m e) s g u some h v =
    let l : limit * down e * u ≤ m * up e * u = le_trans (le_of_eq (mul_right_comm limit (down e) u)) (le_trans (mul-le-mul_right (down e) h) (le_of_eq (sym v.1))) in
    (v.0, le_of_mul-le-mul_right l some)

round_large : (s : Bool) (a c : ℕ) → 0 < c → limit * c ≤ a → Large s (round binary64 s a c)
round_large s a c some h = go (ltb (grid binary64 a c) (overflow binary64)) refl
  where
    go : (b : Bool) → ltb (grid binary64 a c) (overflow binary64) ≡ b → Large s (round binary64 s a c)
    go true k =
        large_value (round binary64 s a c) s (grid binary64 a c) (2 ^ 1074) (pow_pos 1074) (at_least_whole limit a c some (lit≤ tt) h)
        (round_value s a c (ltb-true (grid binary64 a c) (overflow binary64) k))
    go false k = rw (round_overflow s a c (ltb-false (grid binary64 a c) (overflow binary64) k)) refl

whole_large : (x : Float) (s : Bool) → Large s x → whole_of x ≡ with_sign s limit
unfolding whole_of
whole_large nan s l = absurd l
whole_large (inf t) s l = ap (λ (b : Bool). with_sign b limit) l
whole_large (fin t m e) s l = rw l.0 (ap (with_sign s) (above_limit s (m * up e) (down e) (down_pos e) l.1))

-- ---- every whole number is the nearest one to its nearest float, but for the clamp
clamped_large : (s : Bool) (n : ℕ) → limit ≤ n → with_sign s limit ≡ clamped s n
clamped_large s n h = let e : limit ≡ min n limit = omega arith in ap (with_sign s) e

whole_round : (s : Bool) (n : ℕ) → whole_of (round binary64 s n 1) ≡ clamped s n
whole_round s n = go (leb n limit) refl
  where
    go : (b : Bool) → leb n limit ≡ b → whole_of (round binary64 s n 1) ≡ clamped s n
    go true h =
        whole_value (round binary64 s n 1) s n (round_whole binary64 s n (le_trans (leb-true n limit h) (lit≤ tt)))
    go false h =
        let l : limit ≤ n = omega (arith, leb-false n limit h) in
        whole_large (round binary64 s n 1) s (round_large s n 1 (lit< tt) (omega arith)) ∙ clamped_large s n l

pub whole_nearest : (z : ℤ) → whole_of (nearest_of z) ≡ within z
unfolding of_int
whole_nearest (pos n) = whole_round false n
whole_nearest (negsuc n) = whole_round true (suc n)

pub within_small : (z : ℤ) → nat_abs z ≤ limit → within z ≡ z
within_small (pos n) h = let e : min n limit ≡ n = omega arith in ap pos e
within_small (negsuc n) h = let e : min (suc n) limit ≡ suc n = omega arith in ap (λ (k : ℕ). neg_ℤ (pos k)) e

-- ---- a completed activity earns its budget, but for the clamp
unlike_false : (s : Bool) → unlike s false ≡ s
unlike_false false = refl
unlike_false true = refl

one_value : (x : Float) (s : Bool) (n : ℕ) → HasValue x s n 1 → mul binary64 x one ≡ round binary64 s n 1
unfolding mul
one_value nan s n v = absurd v
one_value (inf t) s n v = absurd v
one_value (fin t m e) s n v =
    rw (unlike_false t, v.0)
    (round_same binary64 s (m * up e * 1) (down e * 1) n 1 (omega (arith, down_pos e)) (lit< tt) (omega (arith, v.1)))

one_large : (x : Float) (s : Bool) → Large s x → Large s (mul binary64 x one)
unfolding mul
one_large nan s l = absurd l
one_large (inf t) s l = unlike_false t ∙ l
one_large (fin t m e) s l =
    rw (unlike_false t, l.0)
    (round_large s (m * up e * 1) (down e * 1) (omega (arith, down_pos e)) (omega (arith, l.1)))

whole_one : (s : Bool) (n : ℕ) → whole_of (mul binary64 (round binary64 s n 1) one) ≡ clamped s n
whole_one s n = go (leb n limit) refl
  where
    go : (b : Bool) → leb n limit ≡ b → whole_of (mul binary64 (round binary64 s n 1) one) ≡ clamped s n
    go true h =
        let v = round_whole binary64 s n (le_trans (leb-true n limit h) (lit≤ tt)) in
        ap whole_of (one_value (round binary64 s n 1) s n v) ∙ whole_round s n
    go false h =
        let l : limit ≤ n = omega (arith, leb-false n limit h) in
        whole_large (mul binary64 (round binary64 s n 1) one) s (one_large (round binary64 s n 1) s (round_large s n 1 (lit< tt) (omega arith)))
        ∙ clamped_large s n l

pub earned_all : (budget : ℤ) → earned_of budget one ≡ within budget
unfolding of_int
earned_all (pos n) = whole_one false n
earned_all (negsuc n) = whole_one true (suc n)

-- ---- and one not begun earns nothing
zero_exact : (s : Bool) → round binary64 s 0 1 ≡ fin s 0 (pos 0)
unfolding round
zero_exact false = refl
zero_exact true = refl

pub round_zero : (s : Bool) (a c : ℕ) → 0 < c → a ≡ 0 → round binary64 s a c ≡ fin s 0 (pos 0)
round_zero s a c some e = round_same binary64 s a c 0 1 some (lit< tt) (omega arith) ∙ zero_exact s

whole_nought : (x : Float) → whole_of (mul binary64 x nought) ≡ pos 0
unfolding mul whole_of
whole_nought nan = refl
whole_nought (inf s) = refl
whole_nought (fin s m e) =
    ap whole_of (round_zero (unlike s false) (m * up e * 0) (down e * 1) (omega (arith, down_pos e)) (omega arith)) ∙ at_zero (unlike s false)
  where
    at_zero : (s : Bool) → whole_of (fin s 0 (pos 0)) ≡ pos 0
    at_zero false = refl
    at_zero true = refl

pub earned_none : (budget : ℤ) → earned_of budget nought ≡ pos 0
earned_none budget = whole_nought (nearest_of budget)
