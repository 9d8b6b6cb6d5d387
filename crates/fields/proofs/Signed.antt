-- Signed numbers of 64 bits.
use Prim.Native.Nat.{ℕ, zero, suc, ◌/◌, ◌^◌, ◌<◌}
use native.Mathlib.Omega.{arith}
use mathlib.Core.Path.{◌≡◌, refl, ap, ◌∙◌}
use lib.IntN.{ℤ, pos, negsuc, ◌-ℤ◌}
use lib.Signed.{mag}
use mir.Syntax.{w64}
use mir.Val.{to_z, of_z, SFits}
use mir.Facts.{to_z-of_z}

-- a signed number that fits is read back as it was written
pub kept : (z : ℤ) → mag z < 2 ^ 63 → to_z w64 (of_z w64 z) ≡ z
kept z h = to_z-of_z {w = w64} {z = z} (record { sfits = h })

from_minus_one : (n : ℕ) → negsuc 0 -ℤ pos n ≡ negsuc n
from_minus_one zero = refl
from_minus_one (suc n) = ap negsuc (omega arith)

-- half of a number, as a signed one, and what stands that far below -1
module _ (v : ℕ) (h : v < 2 ^ 64) where
  pub half : to_z w64 (v / 2) ≡ pos (v / 2)
  half = kept (pos (v / 2)) (omega arith)

  below : negsuc 0 -ℤ to_z w64 (v / 2) ≡ negsuc (v / 2)
  below = ap (λ (z : ℤ). negsuc 0 -ℤ z) half ∙ from_minus_one (v / 2)

  pub below_fits : SFits w64 (negsuc 0 -ℤ to_z w64 (v / 2))
  below_fits = rw below (record { sfits = omega arith })

  pub below_kept : to_z w64 (of_z w64 (negsuc 0 -ℤ to_z w64 (v / 2))) ≡ negsuc (v / 2)
  below_kept = kept (negsuc 0 -ℤ to_z w64 (v / 2)) below_fits.sfits ∙ below
