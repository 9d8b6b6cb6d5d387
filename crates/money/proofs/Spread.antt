-- The shares of an amount: they add up to it, and their partial sums go from 0 to it without turning back.
-- All is counted on the magnitude, with the amount's sign. Assumes nothing.
use Rattle.std.proofs.Common.{◌≡◌, ℕ, zero, suc, ◌+◌, ◌*◌, ◌/◌, ◌%◌, ◌<◌, ◌≤◌, min, Bool, true, false, cond, not, T, ltb, ℤ, pos, negsuc, ◌+ℤ◌, ◌-ℤ◌, nat_abs, sym, refl, ap, ◌∙◌, ap₂, mul-le-mul_right, mod-lt, div-le_self, arith, ltb→lt, nltb→le, le-ltb, lt-ltb}
use native.Mathlib.Nat.{div-add-mod}
use lib.IntN.{+ℤ_assoc, +ℤ_idl, +ℤ_idr}
use lib.Signed.{quot_z, rem_z}
use Rattle.integer.specs.Signs.{like, like_zero, like_plus, like_abs, like_all, like_between, like_nearer, Between}
use Rattle.integer.specs.Sums.{ints, sum, total}
use Rattle.money.specs.Shares.{signum, share_of, shares_from, spread}

-- ---- in ℕ
-- one more on the first days
abbrev pub extra : Bool → ℕ
extra true = 1
extra false = 0

extra_min : (k r : ℕ) → min k r + extra (ltb k r) ≡ min (suc k) r
extra_min k r = go (ltb k r) (ltb→lt k r) (nltb→le k r)
  where
    go : (b : Bool) → (T b → k < r) → (T (not b) → r ≤ k) → min k r + extra b ≡ min (suc k) r
    go true y n = omega (arith, y tt)
    go false y n = omega (arith, n tt)

-- what day k of n gets of a magnitude
abbrev pub part : ℕ → ℕ → ℕ → ℕ
part a n k = a / n + extra (ltb k (a % n))

-- what the first k days get
abbrev pub parts : ℕ → ℕ → ℕ → ℕ
parts a n k = k * (a / n) + min k (a % n)

parts_none : (a n : ℕ) → parts a n 0 ≡ 0
parts_none a n = omega arith

pub parts_next : (a n k : ℕ) → parts a n (suc k) ≡ parts a n k + part a n k
parts_next a n k = omega (arith, extra_min k (a % n))

pub parts_all : (a n : ℕ) → 0 < n → parts a n n ≡ a
parts_all a n h = omega (arith, div-add-mod a n, mod-lt a h)

parts_mono : (a n j k : ℕ) → j ≤ k → parts a n j ≤ parts a n k
parts_mono a n j k h = omega (arith, mul-le-mul_right (a / n) h)

pub parts_le : (a n k : ℕ) → 0 < n → k ≤ n → parts a n k ≤ a
parts_le a n k p h = omega (arith, parts_mono a n k n h, parts_all a n p)

pub part_le : (a n k : ℕ) → 0 < n → part a n k ≤ a
part_le a n k p = go (ltb k (a % n)) (ltb→lt k (a % n))
  where
    go : (b : Bool) → (T b → k < a % n) → a / n + extra b ≤ a
    go true y = omega (arith, y tt, div-add-mod a n, mul-le-mul_right (a / n) p)
    go false y = omega (arith, div-le_self a n)

-- as a branch of the code computes it
pub part_then : (a n k : ℕ) → k < a % n → a / n + 1 ≡ part a n k
part_then a n k h = ap (λ (b : Bool). a / n + extra b) (sym (lt-ltb k (a % n) h))

pub part_else : (a n k : ℕ) → a % n ≤ k → a / n ≡ part a n k
part_else a n k h = omega (arith, ap (λ (b : Bool). a / n + extra b) (le-ltb k (a % n) h))

-- ---- with the amount's sign
quot_like : (z : ℤ) (n : ℕ) → quot_z z (pos n) ≡ like z (nat_abs z / n)
quot_like (pos a) n = refl
quot_like (negsuc a) n = refl

rem_like : (z : ℤ) (n : ℕ) → rem_z z (pos n) ≡ like z (nat_abs z % n)
rem_like (pos a) n = refl
rem_like (negsuc a) n = refl

-- one hundredth with the remainder's sign, where some remains
one_like : (z : ℤ) (b : Bool) (r : ℕ) → (T b → 0 < r) → cond b (signum (like z r)) (pos 0) ≡ like z (extra b)
one_like z false r h = sym (like_zero z)
one_like z true zero h = absurd (omega (arith, h tt))
one_like (pos a) true (suc r) h = refl
one_like (negsuc a) true (suc r) h = refl

pub share_like : (z : ℤ) (n k : ℕ) → share_of z n k ≡ like z (part (nat_abs z) n k)
unfolding share_of
share_like z n k =
    let r = nat_abs z % n in
    ap₂ (λ (q s : ℤ). q +ℤ cond (ltb k (nat_abs s)) (signum s) (pos 0)) (quot_like z n) (rem_like z n)
    ∙ ap (λ (x : ℕ). like z (nat_abs z / n) +ℤ cond (ltb k x) (signum (like z r)) (pos 0)) (like_abs z r)
    ∙ ap (λ (x : ℤ). like z (nat_abs z / n) +ℤ x) (one_like z (ltb k r) r (λ t. omega (arith, ltb→lt k r t)))
    ∙ like_plus z (nat_abs z / n) (extra (ltb k r))

pub sum_like : (z : ℤ) (n k : ℕ) → sum ints (share_of z n) k ≡ like z (parts (nat_abs z) n k)
unfolding sum
sum_like z n zero = sym (ap (like z) (parts_none (nat_abs z) n) ∙ like_zero z)
sum_like z n (suc k) =
    ap₂ ◌+ℤ◌ (sum_like z n k) (share_like z n k)
    ∙ like_plus z (parts (nat_abs z) n k) (part (nat_abs z) n k)
    ∙ ap (like z) (sym (parts_next (nat_abs z) n k))

-- ---- the laws
-- the n shares add up to the amount
pub shares_all : (z : ℤ) (n : ℕ) → 0 < n → sum ints (share_of z n) n ≡ z
shares_all z n h = sum_like z n n ∙ ap (like z) (parts_all (nat_abs z) n h) ∙ like_all z

-- every partial sum lies between zero and the amount
pub shares_between : (z : ℤ) (n k : ℕ) → 0 < n → k ≤ n → Between (sum ints (share_of z n) k) z
shares_between z n k p h = rw (sum_like z n k) (like_between z (parts (nat_abs z) n k) (parts_le (nat_abs z) n k p h))

-- and a later one is no further from the amount
pub shares_nearer : (z : ℤ) (n j k : ℕ) → 0 < n → j ≤ k → k ≤ n → nat_abs (z -ℤ sum ints (share_of z n) k) ≤ nat_abs (z -ℤ sum ints (share_of z n) j)
shares_nearer z n j k p h q =
    rw (sum_like z n k, sum_like z n j)
    (like_nearer z (parts (nat_abs z) n j) (parts (nat_abs z) n k) (parts_mono (nat_abs z) n j k h) (parts_le (nat_abs z) n k p q))

-- the shares, listed
listed : (z : ℤ) (n k m e : ℕ) → k + m ≡ e → sum ints (share_of z n) k +ℤ total ints (shares_from z n k m) ≡ sum ints (share_of z n) e
unfolding shares_from total sum
listed z n k zero e h =
    let same : k ≡ e = omega arith in
    +ℤ_idr (sum ints (share_of z n) k) ∙ ap (sum ints (share_of z n)) same
listed z n k (suc m) e h =
    sym (+ℤ_assoc (sum ints (share_of z n) k) (share_of z n k) (total ints (shares_from z n (suc k) m)))
    ∙ listed z n (suc k) m e (omega arith)

pub spread_all : (z : ℤ) (n : ℕ) → 0 < n → total ints (spread z n) ≡ z
unfolding sum
spread_all z n h = sym (+ℤ_idl (total ints (spread z n))) ∙ listed z n 0 n n (omega arith) ∙ shares_all z n h
