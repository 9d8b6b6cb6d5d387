-- Signs: a number from a sign and a magnitude, a magnitude with the sign of another number, and whether a number is 0. Assumes nothing.
use Rattle.std.specs.Prelude.{◌≡◌, refl, Bool, true, false, ℕ, zero, suc, ◌+◌, ◌-◌, ◌^◌, ◌≤◌, ◌<◌, ℤ, pos, negsuc, neg_ℤ, nat_abs, ◌+ℤ◌, ◌-ℤ◌, ◌≤ℤ◌}
use Rattle.std.proofs.Common.{sym, ap, ◌∙◌, subst, zero-le, arith, SFits, of_z}
use Rattle.std.proofs.Math.Dec.{leb-suc-zero}
use Rattle.std.proofs.Math.IntN.{neg_ℤ-+ℤ}
use Rattle.std.specs.Int.Signed.{lt_z}
use Rattle.std.specs.Int.{Width, w64}
use Rattle.std.proofs.lemmas.Int.{to_z-of_z}
use Rattle.integer.specs.Linear.{plus, minus, linear, dif, abs, apart, neg_plus, neg_minus, fits_in, seen}

-- ---- definitions
abbrev pub negative : ℤ → Bool
negative (pos n) = false
negative (negsuc n) = true

abbrev pub is_zero : ℤ → Bool
is_zero (pos zero) = true
is_zero (pos (suc n)) = false
is_zero (negsuc n) = false

-- −n where the sign is true, else n
abbrev pub with_sign : Bool → ℕ → ℤ
with_sign true n = neg_ℤ (pos n)
with_sign false n = pos n

-- a magnitude with the sign of z
abbrev pub like : ℤ → ℕ → ℤ
like z n = with_sign (negative z) n

-- s lies between 0 and z
pub record Between (s z : ℤ) : Type 0 where
  pub over : pos 0 ≤ℤ z → (pos 0 ≤ℤ s) × (s ≤ℤ z)
  pub under : z ≤ℤ pos 0 → (z ≤ℤ s) × (s ≤ℤ pos 0)

-- ---- the parts of a signed magnitude
pub record Parts (z : ℤ) (u d : ℕ) : Type 0 where
  pub up : plus z ≡ u
  pub down : minus z ≡ d

pub neg_parts : (n : ℕ) → Parts (neg_ℤ (pos n)) 0 n
neg_parts n = record { up = neg_plus (pos n); down = neg_minus (pos n) }

pub when_neg : {b : Bool} → b ≡ true → (n : ℕ) → Parts (with_sign b n) 0 n
when_neg {b} e n = subst (λ (x : Bool). Parts (with_sign x n) 0 n) (sym e) (neg_parts n)

pub when_pos : {b : Bool} → b ≡ false → (n : ℕ) → Parts (with_sign b n) n 0
when_pos {b} e n = subst (λ (x : Bool). Parts (with_sign x n) n 0) (sym e) (record { up = refl; down = refl })

-- ---- as code makes them: the sign is a test of what the machine reads
neg_test : (z : ℤ) → lt_z z (pos 0) ≡ negative z
neg_test (pos n) = leb-suc-zero n
neg_test (negsuc n) = refl

pub sign_is : {w : Width} {z : ℤ} → SFits w z → lt_z (seen w z) (pos 0) ≡ negative z
sign_is {w} {z} h = ap (λ (x : ℤ). lt_z x (pos 0)) (to_z-of_z w z h) ∙ neg_test z

pub like_is : {w : Width} {z : ℤ} → SFits w z → (n : ℕ) → with_sign (lt_z (seen w z) (pos 0)) n ≡ like z n
like_is h n = ap (λ (b : Bool). with_sign b n) (sign_is h)

pub like_fits : {w : Width} {z : ℤ} → SFits w z → {n : ℕ} → n ≤ nat_abs z → SFits w (like z n)
like_fits {w} {z = pos a} h {n} k = record { sfits = omega (arith, h.sfits) }
like_fits {w} {z = negsuc a} h {n} k = omega (arith, fits_in, neg_parts n, h.sfits)

-- zero by its bits
pub zero_bits : (z : ℤ) → SFits w64 z → of_z w64 z ≡ 0 → is_zero z ≡ true
zero_bits (pos zero) f h = refl
zero_bits (pos (suc n)) f h = absurd (never n h)
  where
    never : (n : ℕ) → suc n ≡ 0 → ⊥
    never n h = omega arith
zero_bits (negsuc n) f h = absurd (never n f.sfits h)
  where
    never : (n : ℕ) → n < 2 ^ 63 → 2 ^ 64 - suc n ≡ 0 → ⊥
    never n l h = omega arith

pub nonzero_bits : (z : ℤ) → (of_z w64 z ≡ 0 → ⊥) → is_zero z ≡ false
nonzero_bits (pos zero) h = absurd (h refl)
nonzero_bits (pos (suc n)) h = refl
nonzero_bits (negsuc n) h = refl

-- ---- laws
pub like_zero : (z : ℤ) → like z 0 ≡ pos 0
like_zero (pos a) = refl
like_zero (negsuc a) = refl

pub like_plus : (z : ℤ) (x y : ℕ) → like z x +ℤ like z y ≡ like z (x + y)
like_plus (pos a) x y = refl
like_plus (negsuc a) x y = sym (neg_ℤ-+ℤ (pos x) (pos y))

pub like_abs : (z : ℤ) (x : ℕ) → nat_abs (like z x) ≡ x
like_abs (pos a) x = refl
like_abs (negsuc a) x = omega (arith, abs (neg_ℤ (pos x)), neg_parts x)

pub like_all : (z : ℤ) → like z (nat_abs z) ≡ z
like_all (pos a) = refl
like_all (negsuc a) = refl

-- a part of the magnitude lies between 0 and the number
pub like_between : (z : ℤ) (x : ℕ) → x ≤ nat_abs z → Between (like z x) z
like_between (pos a) x h = record { over = λ p. (omega linear, omega linear); under = λ p. (omega linear, omega linear) }
like_between (negsuc a) x h = record {
  over = λ p. (omega (linear, neg_parts x), omega (linear, neg_parts x));
  under = λ p. (omega (linear, neg_parts x), omega (linear, neg_parts x));
}

-- where s is no larger than t, and t than z, in both parts, t is no farther from z than s
nearer : (z s t : ℤ) → plus s ≤ plus t → minus s ≤ minus t → plus t ≤ plus z → minus t ≤ minus z → nat_abs (z -ℤ t) ≤ nat_abs (z -ℤ s)
nearer z s t a b c d = omega (arith, dif z s, dif z t, abs (z -ℤ s), abs (z -ℤ t), apart z, apart (z -ℤ s), apart (z -ℤ t))

-- the larger the part of the magnitude, the nearer to the number
pub like_nearer : (z : ℤ) (x y : ℕ) → x ≤ y → y ≤ nat_abs z → nat_abs (z -ℤ like z y) ≤ nat_abs (z -ℤ like z x)
like_nearer (pos a) x y h k = nearer (pos a) (pos x) (pos y) h zero-le k zero-le
like_nearer (negsuc a) x y h k = nearer (negsuc a) (neg_ℤ (pos x)) (neg_ℤ (pos y)) (omega (arith, neg_parts x)) (omega (arith, neg_parts x, neg_parts y)) (omega (arith, neg_parts y)) (omega (arith, neg_parts y))
