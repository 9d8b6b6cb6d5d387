-- How far a float is from the exact number that it stands for, by the roundings on the way: k of them put it at most k / (2 ^ 53 − k) of that number away. Assumes nothing.
use mathlib.Core.Path.{◌≡◌, refl, sym, ap₂, subst}
use mathlib.Core.Bool.{Bool, true, false}
use Prim.Native.Nat.{ℕ, suc, ◌+◌, ◌-◌, ◌*◌, ◌^◌, ◌≤◌, ◌<◌}
use native.Mathlib.Nat.{le_trans, le_of_eq, lt_of_lt_of_le, mul-pos, mul_comm, mul_assoc}
use native.Mathlib.Omega.{arith}
use borrow.Author.Tests.{ne_eqb}
use lib.Dec.{T, leb, lit<, lit≤}
use lib.IntN.{ℤ, pos, negsuc, nat_abs}
use lib.Ieee.{Float, nan, inf, fin, binary64, up, down, unlike, round, mul, div, of_int}
use lib.Ieee.Back.{round_whole}
use lib.Ieee.Exact.{HasValue}
use lib.Ieee.Fits.{down_pos}
use lib.Ieee.Positive.{first_pos}
use lib.Ieee.Scale.{finite, round_same}
use mir.Syntax.{w64}
use mir.Val.{SFits}
use Rattle.integer.specs.Signs.{negative}
use Rattle.floats.specs.Rounding.{nearest_of}
use Rattle.formulas.specs.Exact.{value, Small, Close}
use Rattle.formulas.proofs.Distance.{same_sign}
use Rattle.formulas.proofs.Errors.{Ratio, through, product, quotient, weaken, apart, within, Moderate, moderate, larger, moderate_near}
use Rattle.formulas.proofs.Nearest.{fraction, range, is_number, round_close}

-- ---- quotients and products of floats, by any fractions that they equal
pub own : (x : Float) → T (finite x) → HasValue x (value x).sign (value x).over (value x).under
own nan h = absurd h
own (inf s) h = absurd h
own (fin s m e) h = (refl, refl)

pub under_pos : (x : Float) → T (finite x) → 0 < (value x).under
under_pos nan h = absurd h
under_pos (inf s) h = absurd h
under_pos (fin s m e) h = down_pos e

pub div_at : (x y : Float) (s t : Bool) (a c b d : ℕ) → 0 < c → 0 < b → HasValue x s a c → HasValue y t b d → div binary64 x y ≡ round binary64 (unlike s t) (a * d) (b * c)
unfolding div
div_at nan y s t a c b d pc pb v w = absurd v
div_at (inf r) y s t a c b d pc pb v w = absurd v
div_at (fin r m e) nan s t a c b d pc pb v w = absurd w
div_at (fin r m e) (inf q) s t a c b d pc pb v w = absurd w
div_at (fin r m e) (fin q n k) s t a c b d pc pb v w =
    let y : 0 < n * up k = first_pos (n * up k) d (subst (λ (z : ℕ). 0 < z) (sym w.1) (mul-pos pb (down_pos k))) in
    let digits : 0 < n = first_pos n (up k) y in
    rw (ne_eqb n 0 (λ (z : n ≡ 0). omega arith), v.0, w.0)
    (round_same binary64 (unlike s t) (m * up e * down k) (n * up k * down e) (a * d) (b * c) (mul-pos y (down_pos e)) (mul-pos pb pc)
    (cross (m * up e) c (n * up k) d a (down e) b (down k) v.1 w.1))
  where
    cross : (x c y d a p b q : ℕ) → x * c ≡ a * p → y * d ≡ b * q → x * q * (b * c) ≡ a * d * (y * p)
    cross x c y d a p b q e f = omega (arith, ap₂ ◌*◌ e (sym f))

mul_at : (x y : Float) (s t : Bool) (a c b d : ℕ) → 0 < c → 0 < d → HasValue x s a c → HasValue y t b d → mul binary64 x y ≡ round binary64 (unlike s t) (a * b) (c * d)
unfolding mul
mul_at nan y s t a c b d pc pd v w = absurd v
mul_at (inf r) y s t a c b d pc pd v w = absurd v
mul_at (fin r m e) nan s t a c b d pc pd v w = absurd w
mul_at (fin r m e) (inf q) s t a c b d pc pd v w = absurd w
mul_at (fin r m e) (fin q n k) s t a c b d pc pd v w =
    rw (v.0, w.0)
    (round_same binary64 (unlike s t) (m * up e * (n * up k)) (down e * down k) (a * b) (c * d) (mul-pos (down_pos e) (down_pos k)) (mul-pos pc pd)
    (cross (m * up e) c (n * up k) d a (down e) b (down k) v.1 w.1))
  where
    cross : (x c y d a p b q : ℕ) → x * c ≡ a * p → y * d ≡ b * q → x * y * (c * d) ≡ a * b * (p * q)
    cross x c y d a p b q e f = omega (arith, ap₂ ◌*◌ e f)

-- ---- z is ± a / c, but for a factor between d / 2 ^ 53 and 2 ^ 53 / d
pub record Within (d : ℕ) (z : Float) (s : Bool) (a c : ℕ) : Type 0 where
  pub number : T (finite z)
  pub sign : (value z).sign ≡ s
  pub ratio : Ratio (value z).over (value z).under a c d (2 ^ 53)

pub over_pos : {d : ℕ} {z : Float} {s : Bool} {a c : ℕ} → 0 < d → 0 < a → Within d z s a c → 0 < (value z).over
over_pos {d} {z} {s} {a} {c} D A w =
    first_pos (value z).over (c * 2 ^ 53)
    (lt_of_lt_of_le (mul-pos (mul-pos A (under_pos z w.number)) D) (le_trans w.ratio.lower (le_of_eq (mul_assoc (value z).over c (2 ^ 53)))))

-- a whole number up to 2 ^ 53 is its own float
pub exact : (z : ℤ) → Small z → HasValue (nearest_of z) (negative z) (nat_abs z) 1
unfolding of_int
exact (pos n) h = round_whole binary64 false n (le_trans h (lit≤ tt))
exact (negsuc n) h = round_whole binary64 true (suc n) (le_trans h (lit≤ tt))

of_value : (z : Float) (s : Bool) (a c : ℕ) → HasValue z s a c → Within (2 ^ 53) z s a c
of_value nan s a c v = absurd v
of_value (inf t) s a c v = absurd v
of_value (fin t m e) s a c v = record { number = tt; sign = v.0; ratio = record { upper = omega (arith, v.1); lower = omega (arith, v.1) } }

pub exact_within : (z : ℤ) → Small z → Within (2 ^ 53) (nearest_of z) (negative z) (nat_abs z) 1
exact_within z h = of_value (nearest_of z) (negative z) (nat_abs z) 1 (exact z h)

-- ---- a rounding
of_close : (z : Float) (s : Bool) (a c g u : ℕ) → HasValue z s g u → Close 1 (2 ^ 53) z (fraction s a c) → Within (2 ^ 53 - 1) z s a c
of_close nan s a c g u v h = absurd v
of_close (inf t) s a c g u v h = absurd v
of_close (fin t m e) s a c g u v h = record {
  number = tt;
  sign = v.0;
  ratio = within (m * up e) (down e) a c (2 ^ 53 - 1) (rw (v.0, same_sign s (m * up e * c) (a * down e)) at h);
}

pub round_within : (s : Bool) (a c : ℕ) → 0 < c → Moderate range a c → Within (2 ^ 53 - 1) (round binary64 s a c) s a c
round_within s a c some fine = of_close (round binary64 s a c) s a c _ (2 ^ 1074) (is_number s a c some fine) (round_close s a c some fine)

pub size_le : (z : ℤ) → SFits w64 z → nat_abs z ≤ 2 ^ 63
size_le (pos n) f = omega (arith, f.sfits)
size_le (negsuc n) f = omega (arith, f.sfits)

-- of an amount of 64 bits
pub amount_range : (z : ℤ) → SFits w64 z → Moderate range (nat_abs z) 1
amount_range z f = larger (lit≤ {m = 2 ^ 63} {n = 2 ^ 500} tt) (moderate (2 ^ 63) (nat_abs z) 1 (size_le z f) (lit≤ tt) (lit< tt))

pub nearest_within : (z : ℤ) → SFits w64 z → Within (2 ^ 53 - 1) (nearest_of z) (negative z) (nat_abs z) 1
unfolding of_int
nearest_within (pos n) f = round_within false n 1 (lit< tt) (amount_range (pos n) f)
nearest_within (negsuc n) f = round_within true (suc n) 1 (lit< tt) (amount_range (negsuc n) f)

-- ---- one rounding behind others: a product or a quotient of what d counts and what e counts, rounded, is what k counts
pub record OneMore (d e k : ℕ) : Type 0 where
  pub most : 2 ^ 53 * 2 ^ 53 ≤ d * e * 2
  pub last : k * (2 ^ 53 * 2 ^ 53) ≤ (2 ^ 53 - 1) * (d * e)

-- for numerals by computation
pub one_more : {d e k : ℕ} → T (leb (2 ^ 53 * 2 ^ 53) (d * e * 2)) → T (leb (k * (2 ^ 53 * 2 ^ 53)) ((2 ^ 53 - 1) * (d * e))) → OneMore d e k
one_more h l = record { most = lit≤ h; last = lit≤ l }

counts_pos : {d e k : ℕ} → OneMore d e k → 0 < d * e
counts_pos {d} {e} h = first_pos (d * e) 2 (lt_of_lt_of_le (lit< {m = 0} {n = 2 ^ 53 * 2 ^ 53} tt) h.most)

pub second_pos : (m n : ℕ) → 0 < m * n → 0 < n
second_pos m n h = first_pos n m (subst (λ (k : ℕ). 0 < k) (mul_comm m n) h)

pub count_pos : {d e k : ℕ} → OneMore d e k → 0 < e
count_pos {d} {e} h = second_pos d e (counts_pos h)

rounded_again : (s : Bool) (x p a c d e k : ℕ) → 0 < p → 0 < c → OneMore d e k → Ratio x p a c (d * e) (2 ^ 53 * 2 ^ 53) → Moderate (2 ^ 499) a c → Within k (round binary64 s x p) s a c
rounded_again s x p a c d e k P C more f fine =
    let w = round_within s x p P (moderate_near C (counts_pos more) more.most f fine) in
    record { number = w.number; sign = w.sign; ratio = weaken (2 ^ 53 * 2 ^ 53) (lit< tt) more.last (through P w.ratio f) }

pub div_within : (x y : Float) (s t : Bool) (a c b f d e k : ℕ) → 0 < c → 0 < b → OneMore d e k → Moderate (2 ^ 499) (a * f) (b * c)
    → Within d x s a c → Within e y t b f → Within k (div binary64 x y) (unlike s t) (a * f) (b * c)
div_within x y s t a c b f d e k C B more fine v w =
    let Y : 0 < (value y).over = over_pos (count_pos more) B w in
    let P : 0 < (value x).under = under_pos x v.number in
    rw (div_at x y (value x).sign (value y).sign (value x).over (value x).under (value y).over (value y).under P Y (own x v.number) (own y w.number), v.sign, w.sign)
    (rounded_again (unlike s t) ((value x).over * (value y).under) ((value y).over * (value x).under) (a * f) (b * c) d e k (mul-pos Y P) (mul-pos B C) more (quotient v.ratio w.ratio) fine)

pub mul_within : (x y : Float) (s t : Bool) (a c b f d e k : ℕ) → 0 < c → 0 < f → OneMore d e k → Moderate (2 ^ 499) (a * b) (c * f)
    → Within d x s a c → Within e y t b f → Within k (mul binary64 x y) (unlike s t) (a * b) (c * f)
mul_within x y s t a c b f d e k C F more fine v w =
    let P : 0 < (value x).under = under_pos x v.number in
    let Q : 0 < (value y).under = under_pos y w.number in
    rw (mul_at x y (value x).sign (value y).sign (value x).over (value x).under (value y).over (value y).under P Q (own x v.number) (own y w.number), v.sign, w.sign)
    (rounded_again (unlike s t) ((value x).over * (value y).over) ((value x).under * (value y).under) (a * b) (c * f) d e k (mul-pos P Q) (mul-pos C F) more (product v.ratio w.ratio) fine)

-- ---- as an error: |z − a / c| is at most a / c * r / d, where d + r is 2 ^ 53
pub within_close : (z : Float) (s : Bool) (a c d r : ℕ) → d + r ≡ 2 ^ 53 → Within d z s a c → Close r d z (fraction s a c)
within_close z s a c d r e w =
    rw (w.sign, same_sign s ((value z).over * c) (a * (value z).under)) (apart r (subst (λ (n : ℕ). Ratio (value z).over (value z).under a c d n) (sym e) w.ratio))
