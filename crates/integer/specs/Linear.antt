-- Linear facts on ℤ for `omega`, over any width: each z is plus z − minus z, two naturals of which one is 0.
-- The ruleset `linear` reads equations, orders, ranges and tests of ℤ; each operation in a goal wants its fact in the list
-- (`sum a b`, `dif a b`, `abs z`, `within` a range). Assumes nothing.
use Rattle.std.specs.Prelude.{◌≡◌, refl, Bool, true, false, not, cond, ℕ, zero, suc, ◌+◌, ◌-◌, ◌≤◌, ◌<◌, ◌^◌, min, max, T, ltb, ℤ, pos, negsuc, neg_ℤ, nat_abs, ◌+ℤ◌, ◌-ℤ◌, ◌≤ℤ◌, ◌<ℤ◌}
use Rattle.std.proofs.Common.{sym, ap, subst, zero-le, arith, leb→le, le→leb, ltb→lt, lt→ltb, nltb→le, leb-false}
use Rattle.std.proofs.Math.IntN.{sub_ℕ}
use Rattle.std.specs.Int.Signed.{le_z, lt_z, mag, non_neg}
use Rattle.std.specs.Int.{Width}
use mir.Val.{SFits, hbits, to_z, of_z}
use Rattle.std.proofs.lemmas.Int.{to_z-of_z}

abbrev pub plus : ℤ → ℕ
plus (pos n) = n
plus (negsuc n) = 0

abbrev pub minus : ℤ → ℕ
minus (pos n) = 0
minus (negsuc n) = suc n

-- ---- out of ℤ: what a fact on ℤ says of the parts
pub apart : (z : ℤ) → min (plus z) (minus z) ≡ 0
apart (pos n) = omega arith
apart (negsuc n) = omega arith

pub eq_plus : {a b : ℤ} → a ≡ b → plus a ≡ plus b
eq_plus e = ap plus e

pub eq_minus : {a b : ℤ} → a ≡ b → minus a ≡ minus b
eq_minus e = ap minus e

le_plus' : (a b : ℤ) → T (le_z a b) → plus a ≤ plus b
le_plus' (pos a) (pos b) t = leb→le a b t
le_plus' (pos a) (negsuc b) t = absurd t
le_plus' (negsuc a) (pos b) t = zero-le
le_plus' (negsuc a) (negsuc b) t = zero-le

le_minus' : (a b : ℤ) → T (le_z a b) → minus b ≤ minus a
le_minus' (pos a) (pos b) t = zero-le
le_minus' (pos a) (negsuc b) t = absurd t
le_minus' (negsuc a) (pos b) t = zero-le
le_minus' (negsuc a) (negsuc b) t = omega (arith, leb→le b a t)

lt_parts' : (a b : ℤ) → T (lt_z a b) → plus a + minus b < plus b + minus a
lt_parts' (pos a) (pos b) t = omega (arith, ltb→lt a b t)
lt_parts' (pos a) (negsuc b) t = absurd t
lt_parts' (negsuc a) (pos b) t = omega arith
lt_parts' (negsuc a) (negsuc b) t = omega (arith, ltb→lt b a t)

pub le_plus : {a b : ℤ} → a ≤ℤ b → plus a ≤ plus b
le_plus {a} {b} h = le_plus' a b h.le

pub le_minus : {a b : ℤ} → a ≤ℤ b → minus b ≤ minus a
le_minus {a} {b} h = le_minus' a b h.le

pub lt_parts : {a b : ℤ} → a <ℤ b → plus a + minus b < plus b + minus a
lt_parts {a} {b} h = lt_parts' a b h.lt

-- ---- into ℤ
pub eq_in : {a b : ℤ} → plus a + minus b ≡ plus b + minus a → a ≡ b
eq_in {a = pos a} {b = pos b} h = ap pos (omega arith)
eq_in {a = pos a} {b = negsuc b} h = absurd (omega arith)
eq_in {a = negsuc a} {b = pos b} h = absurd (omega arith)
eq_in {a = negsuc a} {b = negsuc b} h = ap negsuc (omega arith)

le_in' : (a b : ℤ) → plus a + minus b ≤ plus b + minus a → T (le_z a b)
le_in' (pos a) (pos b) h = le→leb a b (omega arith)
le_in' (pos a) (negsuc b) h = absurd (omega arith)
le_in' (negsuc a) (pos b) h = tt
le_in' (negsuc a) (negsuc b) h = le→leb b a (omega arith)

lt_in' : (a b : ℤ) → plus a + minus b < plus b + minus a → T (lt_z a b)
lt_in' (pos a) (pos b) h = lt→ltb a b (omega arith)
lt_in' (pos a) (negsuc b) h = absurd (omega arith)
lt_in' (negsuc a) (pos b) h = tt
lt_in' (negsuc a) (negsuc b) h = lt→ltb b a (omega arith)

pub le_in : {a b : ℤ} → plus a + minus b ≤ plus b + minus a → a ≤ℤ b
le_in {a} {b} h = record { le = le_in' a b h }

pub lt_in : {a b : ℤ} → plus a + minus b < plus b + minus a → a <ℤ b
lt_in {a} {b} h = record { lt = lt_in' a b h }

-- ---- the operations
cond_ind : (c : Bool) (x y : ℤ) (P : ℤ → Type 0) → (T c → P x) → (T (not c) → P y) → P (cond c x y)
cond_ind true x y P f g = f tt
cond_ind false x y P f g = g tt

sub_parts : (a b : ℕ) → plus (sub_ℕ a b) + b ≡ a + minus (sub_ℕ a b)
sub_parts a b = cond_ind (ltb a b) (negsuc (b - suc a)) (pos (a - b)) (λ z. plus z + b ≡ a + minus z)
    (λ t. omega (arith, ltb→lt a b t)) (λ t. omega (arith, nltb→le a b t))

pub sum : (a b : ℤ) → plus (a +ℤ b) + (minus a + minus b) ≡ plus a + plus b + minus (a +ℤ b)
sum (pos a) (pos b) = omega arith
sum (pos a) (negsuc b) = omega (arith, sub_parts a (suc b))
sum (negsuc a) (pos b) = omega (arith, sub_parts b (suc a))
sum (negsuc a) (negsuc b) = omega arith

pub neg_plus : (a : ℤ) → plus (neg_ℤ a) ≡ minus a
neg_plus (pos zero) = refl
neg_plus (pos (suc n)) = refl
neg_plus (negsuc n) = refl

pub neg_minus : (a : ℤ) → minus (neg_ℤ a) ≡ plus a
neg_minus (pos zero) = refl
neg_minus (pos (suc n)) = refl
neg_minus (negsuc n) = refl

pub dif : (a b : ℤ) → plus (a -ℤ b) + (minus a + plus b) ≡ plus a + minus b + minus (a -ℤ b)
dif a b = omega (arith, sum a (neg_ℤ b), neg_plus b, neg_minus b)

pub abs : (z : ℤ) → nat_abs z ≡ plus z + minus z
abs (pos n) = omega arith
abs (negsuc n) = omega arith

-- ---- ranges
pub fits_plus : {w : Width} {z : ℤ} → SFits w z → plus z < 2 ^ hbits w
fits_plus {w} {z = pos n} h = h.sfits
fits_plus {w} {z = negsuc n} h = omega (arith, h.sfits)

pub fits_minus : {w : Width} {z : ℤ} → SFits w z → minus z ≤ 2 ^ hbits w
fits_minus {w} {z = pos n} h = zero-le
fits_minus {w} {z = negsuc n} h = h.sfits

pub fits_in : {w : Width} {z : ℤ} → max (suc (plus z + plus z)) (minus z + minus z) ≤ plus z + minus z + 2 ^ hbits w → SFits w z
fits_in {w} {z = pos n} h = record { sfits = omega arith }
fits_in {w} {z = negsuc n} h = record { sfits = omega arith }

-- what the machine reads back of a number's bits
pub back_plus : {w : Width} {z : ℤ} → SFits w z → plus (to_z w (of_z w z)) ≡ plus z
back_plus {w} {z} h = ap plus (to_z-of_z w z h)

pub back_minus : {w : Width} {z : ℤ} → SFits w z → minus (to_z w (of_z w z)) ≡ minus z
back_minus {w} {z} h = ap minus (to_z-of_z w z h)

-- a branch's test
pub lt_z_true : (a b : ℤ) → lt_z a b ≡ true → plus a + minus b < plus b + minus a
lt_z_true a b e = lt_parts' a b (subst T (sym e) tt)

le_z_true' : (a b : ℤ) → T (le_z a b) → plus a + minus b ≤ plus b + minus a
le_z_true' a b t = omega (arith, le_plus' a b t, le_minus' a b t)

pub le_z_true : (a b : ℤ) → le_z a b ≡ true → plus a + minus b ≤ plus b + minus a
le_z_true a b e = le_z_true' a b (subst T (sym e) tt)

pub lt_z_false : (a b : ℤ) → lt_z a b ≡ false → plus b + minus a ≤ plus a + minus b
lt_z_false (pos a) (pos b) e = omega (arith, nltb→le a b (subst (λ (t : Bool). T (not t)) (sym e) tt))
lt_z_false (pos a) (negsuc b) e = omega arith
lt_z_false (negsuc a) (pos b) e = absurd (subst (λ (t : Bool). T (not t)) (sym e) tt)
lt_z_false (negsuc a) (negsuc b) e = omega (arith, nltb→le b a (subst (λ (t : Bool). T (not t)) (sym e) tt))

pub le_z_false : (a b : ℤ) → le_z a b ≡ false → plus b + minus a < plus a + minus b
le_z_false (pos a) (pos b) e = omega (arith, leb-false a b e)
le_z_false (pos a) (negsuc b) e = omega arith
le_z_false (negsuc a) (pos b) e = absurd (subst (λ (t : Bool). T (not t)) (sym e) tt)
le_z_false (negsuc a) (negsuc b) e = omega (arith, leb-false b a e)

pub eq_parts : {a b : ℤ} → a ≡ b → plus a + minus b ≡ plus b + minus a
eq_parts {a} {b} e = omega (arith, eq_plus e, eq_minus e)

pub le_parts : {a b : ℤ} → a ≤ℤ b → plus a + minus b ≤ plus b + minus a
le_parts {a} {b} h = omega (arith, le_plus h, le_minus h)

-- all that is known of a number in range, in one entry of `omega`'s list
pub record InRange (w : Width) (z : ℤ) : Type 0 where
  pub up : plus z < 2 ^ hbits w
  pub down : minus z ≤ 2 ^ hbits w
  pub one : min (plus z) (minus z) ≡ 0
  pub back_up : plus (to_z w (of_z w z)) ≡ plus z
  pub back_down : minus (to_z w (of_z w z)) ≡ minus z

pub within : {w : Width} {z : ℤ} → SFits w z → InRange w z
within {w} {z} h = record { up = fits_plus h; down = fits_minus h; one = apart z; back_up = back_plus h; back_down = back_minus h }

-- a cast to an unsigned type
pub non_neg_in : (z : ℤ) → minus z ≡ 0 → T (non_neg z)
non_neg_in (pos n) h = tt
non_neg_in (negsuc n) h = absurd (omega arith)

pub ruleset linear = (arith, eq_parts, le_parts, lt_parts, eq_in, le_in, lt_in, fits_in, lt_z_true, lt_z_false, le_z_true, le_z_false, non_neg_in)

-- ---- what the machine reads
-- of a signed local that holds z
abbrev pub seen : Width → ℤ → ℤ
seen w z = to_z w (of_z w z)

-- of bits that were written for a number in range: the number, where only the bound is at hand
pub back : (w : Width) (z : ℤ) → mag z < 2 ^ hbits w → seen w z ≡ z
back w z h = to_z-of_z w z (record { sfits = h })

-- an unsigned number below the sign bit, as a signed one
pub low : (w : Width) (n : ℕ) → n < 2 ^ hbits w → InRange w (pos n)
low w n h = within (record { sfits = h })
