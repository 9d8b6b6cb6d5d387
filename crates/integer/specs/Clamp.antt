-- The clamp to a signed width. Assumes nothing.
use Rattle.std.specs.Prelude.{◌≡◌, refl, ℕ, ◌-◌, ◌^◌, ◌≤◌, min, ℤ, pos, negsuc, nat_abs}
use Rattle.std.proofs.Common.{arith, pow_pos}
use Rattle.std.specs.Int.{Width}
use mir.Val.{SFits, hbits}
use Rattle.integer.specs.Linear.{plus, minus, linear, abs, within}

-- the largest number of a signed width: 2^63 − 1 for 64 bits
abbrev pub most : Width → ℕ
most w = 2 ^ hbits w - 1

-- the nearest number of the width: for 64 bits from −2^63 to 2^63 − 1
abbrev pub clamp : Width → ℤ → ℤ
clamp w (pos n) = pos (min n (most w))
clamp w (negsuc n) = negsuc (min n (most w))

-- what `omega` reads of a clamp
pub record Clamped (w : Width) (z : ℤ) : Type 0 where
  pub up : plus (clamp w z) ≡ min (plus z) (most w)
  pub down : minus (clamp w z) ≡ min (minus z) (2 ^ hbits w)
  pub one : min (plus z) (minus z) ≡ 0

pub clamped : (w : Width) (z : ℤ) → Clamped w z
clamped w (pos n) = record { up = refl; down = omega arith; one = omega arith }
clamped w (negsuc n) = record { up = omega arith; down = omega (arith, pow_pos (hbits w)); one = omega arith }

pub clamp_fits : (w : Width) (z : ℤ) → SFits w (clamp w z)
clamp_fits w (pos n) = record { sfits = omega (arith, pow_pos (hbits w)) }
clamp_fits w (negsuc n) = record { sfits = omega (arith, pow_pos (hbits w)) }

-- what is in range stays
pub clamp_same : (w : Width) (z : ℤ) → SFits w z → clamp w z ≡ z
clamp_same w z h = omega (linear, clamped w z, within h)

pub clamp_small : (w : Width) (z : ℤ) → nat_abs z ≤ most w → clamp w z ≡ z
clamp_small w z h = omega (linear, clamped w z, abs z)
