-- Numbers of 64 bits among all whole numbers: the test for them is their range, and what `omega` reads of it. Assumes nothing.
use Rattle.std.proofs.Common.{◌≡◌, ℕ, suc, ◌^◌, ◌<◌, ◌≤◌, max, Bool, true, false, ℤ, pos, negsuc, nat_abs, sym, refl, arith, w64, SFits, ltb-false, ltb-true, le-ltb, lt-ltb}
use mathlib.Core.Path.{subst⁻¹}
use native.Mathlib.Decide.{dec_lt}
use Rattle.integer.specs.Linear.{plus, minus, apart, abs, fits_plus, fits_minus}
use Rattle.money.specs.Words.{of_bits}
use Rattle.money.specs.Exact.{is_word}
use Rattle.money.proofs.Bits.{low, high}

-- ---- the test and the range
pub word_fits : (z : ℤ) → is_word z ≡ true → SFits w64 z
unfolding is_word
word_fits (pos n) e = record { sfits = ltb-true n (2 ^ 63) e }
word_fits (negsuc n) e = record { sfits = ltb-true n (2 ^ 63) e }

pub fits_word : (z : ℤ) → SFits w64 z → is_word z ≡ true
unfolding is_word
fits_word (pos n) h = lt-ltb n (2 ^ 63) h.sfits
fits_word (negsuc n) h = lt-ltb n (2 ^ 63) h.sfits

-- ---- what `omega` reads of the test, and the test from what it proves
pub word_above : (z : ℤ) → is_word z ≡ true → plus z < 2 ^ 63
word_above z e = fits_plus (word_fits z e)

pub word_below : (z : ℤ) → is_word z ≡ true → minus z ≤ 2 ^ 63
word_below z e = fits_minus (word_fits z e)

pub not_word : (z : ℤ) → is_word z ≡ false → 2 ^ 63 < max (suc (plus z)) (minus z)
unfolding is_word
not_word (pos n) e = omega (arith, ltb-false n (2 ^ 63) e)
not_word (negsuc n) e = omega (arith, ltb-false n (2 ^ 63) e)

pub word_in : (z : ℤ) → max (suc (plus z)) (minus z) ≤ 2 ^ 63 → is_word z ≡ true
unfolding is_word
word_in (pos n) h = lt-ltb n (2 ^ 63) (omega arith)
word_in (negsuc n) h = lt-ltb n (2 ^ 63) (omega arith)

pub word_out : (z : ℤ) → 2 ^ 63 < max (suc (plus z)) (minus z) → is_word z ≡ false
unfolding is_word
word_out (pos n) h = le-ltb n (2 ^ 63) (omega arith)
word_out (negsuc n) h = le-ltb n (2 ^ 63) (omega arith)

-- a test that holds where the number is one of 64 bits
pub tested : {t : Bool} (z : ℤ) → (t ≡ true → max (suc (plus z)) (minus z) ≤ 2 ^ 63) → (t ≡ false → 2 ^ 63 < max (suc (plus z)) (minus z)) → t ≡ is_word z
tested {t = true} z y n = sym (word_in z (y refl))
tested {t = false} z y n = sym (word_out z (n refl))

-- ---- how large a number of 64 bits is
pub word_small : {z : ℤ} → SFits w64 z → nat_abs z ≤ 2 ^ 63
word_small {z} h = omega (arith, abs z, fits_plus h, fits_minus h, apart z)

pub of_bits_fits : (n : ℕ) → n < 2 ^ 64 → SFits w64 (of_bits n)
of_bits_fits n h = go (dec_lt n (2 ^ 63))
  where
    go : Dec (n < 2 ^ 63) → SFits w64 (of_bits n)
    go (yes k) = subst⁻¹ (SFits w64) (low n k) (record { sfits = k })
    go (no k) = subst⁻¹ (SFits w64) (high n (omega arith)) (record { sfits = omega arith })

pub of_bits_small : (n : ℕ) → n < 2 ^ 64 → nat_abs (of_bits n) ≤ 2 ^ 63
of_bits_small n h = word_small (of_bits_fits n h)
