-- Two's complement: each way inverts the other, and what `omega` reads of it. Assumes nothing.
use Rattle.std.proofs.Common.{◌≡◌, ℕ, zero, suc, ◌+◌, ◌-◌, ◌%◌, ◌^◌, ◌<◌, ◌≤◌, Bool, true, cond, ℤ, pos, negsuc, refl, ap, ◌∙◌, arith, w64, SFits, to_z, of_z, le-ltb, lt-ltb}
use native.Mathlib.Decide.{dec_lt}
use Rattle.integer.specs.Linear.{plus, minus}
use Rattle.integer.specs.Signs.{with_sign}
use Rattle.money.specs.Words.{bits, of_bits}

pub low : (n : ℕ) → n < 2 ^ 63 → of_bits n ≡ pos n
low n h = ap (λ (b : Bool). cond b (pos n) (negsuc (2 ^ 64 - suc n))) (lt-ltb n (2 ^ 63) h)

pub high : (n : ℕ) → 2 ^ 63 ≤ n → of_bits n ≡ negsuc (2 ^ 64 - suc n)
high n h = ap (λ (b : Bool). cond b (pos n) (negsuc (2 ^ 64 - suc n))) (le-ltb n (2 ^ 63) h)

pub there_and_back : (z : ℤ) → SFits w64 z → of_bits (bits z) ≡ z
there_and_back (pos n) h = low n h.sfits
there_and_back (negsuc n) h = high (2 ^ 64 - suc n) (omega (arith, h.sfits)) ∙ ap negsuc (omega (arith, h.sfits))

pub back_and_there : (n : ℕ) → n < 2 ^ 64 → bits (of_bits n) ≡ n
back_and_there n h = go (dec_lt n (2 ^ 63))
  where
    go : Dec (n < 2 ^ 63) → bits (of_bits n) ≡ n
    go (yes k) = ap bits (low n k)
    go (no k) = ap bits (high n (omega arith)) ∙ omega arith

-- std's casts
pub cast_bits : (z : ℤ) → of_z w64 z ≡ bits z
cast_bits (pos n) = refl
cast_bits (negsuc n) = refl

pub cast_of_bits : (n : ℕ) → to_z w64 n ≡ of_bits n
cast_of_bits n = refl

-- a negative number as code makes it: the magnitude's cast, turned
pub turned : (m : ℕ) → SFits w64 (with_sign true m) → to_z w64 ((2 ^ 64 - m) % 2 ^ 64) ≡ with_sign true m
turned zero h = refl
turned (suc k) h =
    let same : (2 ^ 64 - suc k) % 2 ^ 64 ≡ 2 ^ 64 - suc k = omega (arith, h.sfits) in
    ap (to_z w64) same ∙ there_and_back (negsuc k) h

pub bits_pos : (z : ℤ) → minus z ≡ 0 → bits z ≡ plus z
bits_pos (pos n) h = refl
bits_pos (negsuc n) h = absurd (omega arith)

pub bits_neg : {z : ℤ} → SFits w64 z → 0 < minus z → bits z + minus z ≡ 2 ^ 64
bits_neg {z = pos n} h k = absurd (omega arith)
bits_neg {z = negsuc n} h k = omega (arith, h.sfits)
